-- Trees without depth, as a kind of trees.
use Rattle.std.proofs.Common.{◌≡◌, ℕ, Bool, true, false, List, [], ◌∷◌, ◌++◌, refl, sym, ap, ◌∙◌, subst, arith}
use Rattle.std.specs.Prelude.{Option, map, Result, Ok, Err}
use Rattle.hs_forms.specs.Reading.{Form}
use Rattle.hs_forms.specs.Limits.{Within, deepest, all_of}
use Rattle.hs_forms.specs.Answers.{Accepts, Fails}
use Rattle.hs_forms.specs.declared.fault.Fault.{Fault}
use Rattle.hs_forms.proofs.StateLemmas.{fails_after}
use Rattle.hs_forms.proofs.LimitLemmas.{within_zero}
use Rattle.hs_tokens.specs.declared.terminal.Terminal.{Terminal}
use Rattle.hs_trees.specs.Patterns.{Ts}
use Rattle.hs_readers.specs.Answers.{Answers}
use Rattle.hs_readers.specs.declared.read.Read.{Read}
use Rattle.hs_headers.specs.Lists.{flat}
use Rattle.hs_expression_forms.specs.Trees.{Trees, within, sort_of, Took, Failed}
use Rattle.hs_expression_forms.proofs.TreesLemmas.{reads_same, refuses_same, Stays}
use Rattle.hs_declaration_forms.proofs.MergeLemmas.{Joins, joined_took, joined_failed}

-- A kind of trees is a form of trees without depth.
pub record Flat {T : Type 0} (form : Form Terminal T) (a : Trees Terminal T) : Type 0 where
  pub tokens : (x : T) → a.tokens x ≡ form.tokens x
  pub formed : (x : T) → form.Good x → a.formed x ≡ true
  pub good : (x : T) → a.formed x ≡ true → form.Good x
  pub deep : (x : T) → a.deep x ≡ 0
  pub extends : (x : T) (k : Terminal) → a.extends x k ≡ false → form.extends x k ≡ false

module _ {T : Type 0} (form : Form Terminal T) (a : Trees Terminal T) (f : Flat form a) (limit : Option ℕ) where
  there : (x : T) → form.Good x → (within a limit).Good x
  there x g = (f.formed x g, subst (Within limit) (sym (f.deep x)) (within_zero limit))

  back : (x : T) → (within a limit).Good x → form.Good x
  back x g = f.good x g.0

  pub flat_took : (ts : Ts) (x : T) (rest : Ts) (m : ℕ) → Accepts form (λ x. 0) ts x rest m → Took a limit ts x rest m
  flat_took ts x rest m acc = record {
    spelled = acc.spelled ∙ ap (λ l. l ++ rest) (sym (f.tokens x));
    reads = reads_same form (within a limit) f.tokens there back f.extends x rest acc.reads;
    measured_is = acc.measured_is ∙ sym (f.deep x);
    room = acc.room;
  }

  pub flat_failed : (ts : Ts) (e : Fault) → Fails form ts e → Failed a limit ts e
  flat_failed ts e r =
      fails_after (within a limit) form [] ts ts e refl
      (λ before bad split q. refuses_same form (within a limit) f.tokens there back f.extends before bad q) r

-- the answer of a reader of such trees
pub flat_answers : {T : Type 0} (form : Form Terminal T) (a : Trees Terminal T) (f : Flat form a) (limit : Option ℕ)
    (ts : Ts) (r : Result (Read T) Fault) → Answers (flat form) ts r → Answers (sort_of a limit) ts r
flat_answers form a f limit ts (Ok r) acc = flat_took form a f limit ts r.tree r.rest.now r.depth acc
flat_answers form a f limit ts (Err e) r = flat_failed form a f limit ts e r

-- the answer of a reader of some trees that certain tokens begin, among all
pub joined_answers : {T : Type 0} (whole part : Trees Terminal T) (test : Ts → Bool)
    (j : Joins whole part (λ x. x) test) (limit : Option ℕ) (ts : Ts) → Stays test ts →
    (r : Result (Read T) Fault) → Answers (sort_of part limit) ts r → Answers (sort_of whole limit) ts r
joined_answers whole part test j limit ts stays (Ok r) acc =
    joined_took whole part (λ x. x) test j limit ts r.tree r.rest.now r.depth acc
joined_answers whole part test j limit ts stays (Err e) r =
    joined_failed whole part (λ x. x) test j limit ts e stays r

-- lists of trees without depth, each of which is well formed
pub none_deep : {X : Type 0} (xs : List X) → deepest (map (λ x. 0) xs) ≡ 0
none_deep [] = refl
none_deep {X} (x ∷ xs) =
    let h : deepest (map (λ (y : X). 0) xs) ≡ 0 = none_deep xs in omega (arith, h)

pub each_formed : {X : Type 0} (xs : List X) → all_of (map (λ x. true) xs) ≡ true
each_formed [] = refl
each_formed (x ∷ xs) = each_formed xs
