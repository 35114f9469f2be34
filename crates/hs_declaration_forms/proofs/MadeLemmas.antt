-- Productions that their first tokens tell from the others, no deeper than their parts.
use Rattle.std.proofs.Common.{◌≡◌, ℕ, ◌+◌, Bool, true, false, List, ◌++◌, refl, sym, subst, arith, ap, ◌∙◌}
use Rattle.std.specs.Prelude.{Option, not}
use Rattle.hs_forms.specs.Reading.{begins, SameStart}
use Rattle.hs_forms.specs.declared.fault.Fault.{Fault}
use Rattle.hs_forms.proofs.FormLemmas.{begins_same, same_start_append}
use Rattle.hs_forms.proofs.LimitLemmas.{within_zero}
use Rattle.hs_tokens.specs.declared.terminal.Terminal.{Terminal}
use Rattle.hs_trees.specs.Patterns.{Ts}
use Rattle.hs_expression_forms.specs.Trees.{Trees, Took, Failed, Makes}
use Rattle.hs_expression_forms.proofs.TreesLemmas.{made_took, made_failed, Stays}
use Rattle.hs_expression_forms.proofs.LinkFirstLemmas.{lowered_none}

-- no such token stands first, whatever follows
abbrev pub begins_none : (Terminal → Bool) → Ts → Bool
begins_none f ts = not (begins f ts)

pub stays_off : (f : Terminal → Bool) (ts : Ts) → begins f ts ≡ false → Stays (begins_none f) ts
stays_off f ts off before bad s split same =
    ap not (begins_same f (before ++ bad) (before ++ s) (same_start_append before bad s same)
    ∙ ap (begins f) (sym split) ∙ off)

module _ {P T : Type 0} (whole : Trees Terminal T) (part : Trees Terminal P) (make : P → T) (test : Ts → Bool)
    (w : Makes whole part make 0 test) (limit : Option ℕ) (ts : Ts) where
  pub tested_took : (p : P) (rest : Ts) (m : ℕ) → Took part limit ts p rest m → Took whole limit ts (make p) rest m
  tested_took p rest m acc =
      let same : m + 0 ≡ m = omega arith in
      subst (Took whole limit ts (make p) rest) same
      (made_took whole part make 0 test w limit (within_zero limit) ts p rest m
      (subst (λ l. Took part l ts p rest m) (sym (lowered_none limit)) acc) (omega (arith, acc.room)))

  pub tested_failed : Stays test ts → (e : Fault) → Failed part limit ts e → Failed whole limit ts e
  tested_failed stays e r =
      made_failed whole part make 0 test w limit (within_zero limit) ts e stays
      (subst (λ l. Failed part l ts e) (sym (lowered_none limit)) r)
