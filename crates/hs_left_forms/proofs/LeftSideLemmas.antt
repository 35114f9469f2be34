-- The returns of the reader of left sides, over plain variables.
use Rattle.std.proofs.Common.{◌≡◌, ℕ, Bool, true, false, length, refl, sym, ◌∙◌}
use Rattle.std.specs.Prelude.{◌||◌, Option}
use Rattle.hs_forms.specs.Reading.{begins}
use Rattle.hs_forms.specs.Answers.{Rejects}
use Rattle.hs_forms.specs.declared.fault.Fault.{Fault}
use Rattle.hs_forms.specs.declared.fault.Fault.TheVariants.{At, NoMemory}
use Rattle.hs_forms.proofs.FormLemmas.{begins_same}
use Rattle.hs_forms.proofs.LimitLemmas.{or_left, or_right}
use Rattle.hs_tokens.specs.Terminals.{is_var_sym, starts_qconop}
use Rattle.hs_tokens.specs.declared.terminal.Terminal.{Terminal}
use Rattle.hs_trees.specs.Patterns.{Ts}
use Rattle.hs_trees.specs.declared.patterns.PatTree.{PatTree}
use Rattle.hs_modules.specs.declared.expressions.FunLhsTree.{FunLhsTree}
use Rattle.hs_expression_forms.specs.Trees.{within, Took, Failed}
use Rattle.hs_expression_forms.specs.Expressions.{pats}
use Rattle.hs_declaration_forms.proofs.MergeLemmas.{Merges, Side, of_one, of_two, merged_one, merged_two}
use Rattle.hs_declaration_forms.proofs.MergeLemmas.{merged_fails, wider_took, wider_failed, stands_behind}
use Rattle.hs_left_forms.specs.Lefts.{later, lpat_goes, left_goes, functions, patterns, left_sides}
use Rattle.hs_left_forms.specs.declared.left_side.LeftSide.{LeftSide}
use Rattle.hs_left_forms.specs.declared.left_side.LeftSide.TheVariants as v_left
use Rattle.hs_left_forms.proofs.ApartLemmas.{no_pattern}

-- left sides are those of functions and patterns
pub lefts_merge : Merges functions patterns left_sides v_left.Function v_left.Pattern
lefts_merge = record {
  tokens_one = λ x. refl;
  tokens_two = λ x. refl;
  formed_one = λ x h. h;
  formed_two = λ x h. h;
  deep_one = λ x. refl;
  deep_two = λ x. refl;
  extends_one = λ x k e. e;
  extends_two = λ x k e. e;
  cases = cases;
}
  where
    cases : (x : LeftSide) → left_sides.formed x ≡ true → Side functions patterns v_left.Function v_left.Pattern x
    cases (v_left.Function x) h = of_one x refl h
    cases (v_left.Pattern x) h = of_two x refl h

-- neither is true
both_false : (a b : Bool) → a ≡ false → b ≡ false → a || b ≡ false
both_false a b p q = λ i. p i || q i

-- what goes on no left side goes on no pattern
pat_quiet : (x : PatTree) (k : Terminal) → left_goes k ≡ false → pats.extends x k ≡ false
pat_quiet x k e =
    both_false (lpat_goes k) (starts_qconop k) (or_left (lpat_goes k) _ e)
    (or_left (starts_qconop k) (is_var_sym k) (or_right (lpat_goes k) _ e))

module _ (limit : Option ℕ) (ts : Ts) where
  -- the left side of a function, and what goes on behind it
  pub function_goes : (x : FunLhsTree) (rest : Ts) (m : ℕ) → Took functions limit ts x rest m →
      begins left_goes rest ≡ true → Rejects (within functions limit) ts (length rest)
  function_goes x rest m acc on = stands_behind functions left_goes (λ x k. refl) limit ts x rest m acc on

  -- a pattern, and what goes on behind it
  pub pattern_took : (x : PatTree) (rest : Ts) (m : ℕ) → Took pats limit ts x rest m → Took patterns limit ts x rest m
  pattern_took x rest m acc =
      wider_took pats patterns (λ x. refl) (λ x. refl) (λ x. refl) pat_quiet limit ts x rest m acc

  -- no pattern stands here
  pub pattern_failed : (e : Fault) → Failed pats limit ts e → Failed patterns limit ts e
  pattern_failed e r = wider_failed pats patterns (λ x. refl) (λ x. refl) (λ x. refl) pat_quiet limit ts e r

  -- behind a pattern stands what goes on a left side
  pub pattern_goes : (x : PatTree) (rest : Ts) (m : ℕ) → Took pats limit ts x rest m →
      begins left_goes rest ≡ true → Rejects (within patterns limit) ts (length rest)
  pattern_goes x rest m acc on =
      stands_behind patterns left_goes (λ x k. refl) limit ts x rest m (pattern_took x rest m acc) on

  -- both as left sides
  pub left_function : (x : FunLhsTree) (rest : Ts) (m : ℕ) → Took functions limit ts x rest m →
      begins left_goes rest ≡ false → Took left_sides limit ts (v_left.Function x) rest m
  left_function x rest m acc off =
      merged_one functions patterns left_sides v_left.Function v_left.Pattern lefts_merge limit ts x rest m acc
      (λ s p after same good quiet e.
      no_pattern x acc.reads.good.0 p s after good (begins_same left_goes rest s same ∙ off) quiet e)

  -- a pattern as a left side
  pub left_pattern : (x : PatTree) (rest : Ts) (m : ℕ) → Took patterns limit ts x rest m →
      begins left_goes rest ≡ false → Took left_sides limit ts (v_left.Pattern x) rest m
  left_pattern x rest m acc off =
      merged_two functions patterns left_sides v_left.Function v_left.Pattern lefts_merge limit ts x rest m acc
      (λ s y after same good quiet e.
      no_pattern y good x after s acc.reads.good.0 quiet (begins_same left_goes rest s same ∙ off) (sym e))

  -- neither the left side of a function stands here nor a pattern
  pub left_fails : (l : ℕ) → Rejects (within functions limit) ts l → (e : Fault) → Failed patterns limit ts e →
      Failed left_sides limit ts (later l e)
  left_fails l r (At n) q =
      merged_fails functions patterns left_sides v_left.Function v_left.Pattern lefts_merge limit ts l n r q
  left_fails l r NoMemory q = tt
