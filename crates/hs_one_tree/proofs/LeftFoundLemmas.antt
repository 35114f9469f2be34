-- Left sides of declarations are less deep than they have tokens, and are found again.
use Rattle.std.proofs.Common.{◌≡◌, ℕ, zero, suc, ◌<◌, ◌≤◌, true, false, [], ◌∷◌, ◌++◌, length, refl, sym}
use Rattle.std.proofs.Common.{ap, ◌∙◌, arith, length-append, le_refl, inl, inr}
use Rattle.std.proofs.lemmas.Bool.{or_from}
use Rattle.hs_forms.specs.Reading.{begins}
use Rattle.hs_forms.proofs.FormLemmas.{begins_same, begins_within, same_start_self}
use Rattle.hs_forms.proofs.LimitLemmas.{and_left, or_left, or_right}
use Rattle.hs_tokens.specs.Terminals.{is_var_sym, starts_qconop}
use Rattle.hs_tokens.specs.declared.terminal.Terminal.TheVariants as t
use Rattle.hs_trees.specs.Patterns.{Ts, var_tokens, spelling_apats, spelling_lpat}
use Rattle.hs_trees.specs.declared.patterns.PatTree.{PatTree}
use Rattle.hs_modules.specs.Words.{varop_tokens}
use Rattle.hs_modules.specs.Tokens.{spelling_fun_lhs}
use Rattle.hs_modules.specs.Formed.{is_fun_lhs}
use Rattle.hs_modules.specs.declared.expressions.FunLhsTree.{FunLhsTree}
use Rattle.hs_expression_forms.specs.Expressions.{pats}
use Rattle.hs_declaration_forms.proofs.MergeLemmas.{Side, of_one, of_two}
use Rattle.hs_left_forms.specs.Lefts.{bare, wrapped, functions, left_sides, left_tokens, is_left_side, lpat_goes}
use Rattle.hs_left_forms.specs.Lefts.{left_goes}
use Rattle.hs_left_forms.specs.declared.left_side.LeftSide.{LeftSide}
use Rattle.hs_left_forms.specs.declared.left_side.LeftSide.TheVariants as v_left
use Rattle.hs_left_forms.proofs.LayerLemmas.{make_bare, make_wrapped, function_cases, functions_merge}
use Rattle.hs_left_forms.proofs.ApartLemmas.{Quiet, no_pattern}
use Rattle.hs_left_forms.proofs.UniqueLemmas.{one_function}
use Rattle.hs_one_tree.specs.Found.{Found}
use Rattle.hs_one_tree.proofs.FoundLemmas.{found_room, read_found}
use Rattle.hs_one_tree.proofs.PatternFoundLemmas.{apats_room, lpat_room, pats_found}

-- by the number of tokens
low_by : (n : ℕ) (x : FunLhsTree) → Side bare wrapped make_bare make_wrapped x → length (spelling_fun_lhs x) ≤ n →
    functions.deep x < length (spelling_fun_lhs x)
low_by n x (of_one (inl f) same is) short =
    let deep = ap (λ y. functions.deep y) same ∙ functions_merge.deep_one (inl f) in
    let spelled = ap (λ y. length (spelling_fun_lhs y)) same ∙ ap length (functions_merge.tokens_one (inl f)) in
    let long = length-append (var_tokens f.0) (spelling_apats f.1) in
    let room = apats_room f.1 in
    omega arith
low_by n x (of_one (inr f) same is) short =
    let deep = ap (λ y. functions.deep y) same ∙ functions_merge.deep_one (inr f) in
    let spelled = ap (λ y. length (spelling_fun_lhs y)) same ∙ ap length (functions_merge.tokens_one (inr f)) in
    let long = length-append (spelling_lpat f.0) (varop_tokens f.1.0 ++ spelling_lpat f.1.1) in
    let more = length-append (varop_tokens f.1.0) (spelling_lpat f.1.1) in
    let left = lpat_room f.0 in
    let right = lpat_room f.1.1 in
    omega arith
low_by zero x (of_two f same is) short =
    let spelled = ap (λ y. length (spelling_fun_lhs y)) same ∙ ap length (functions_merge.tokens_two f) in
    absurd (omega arith)
low_by (suc n) x (of_two f same is) short =
    let deep = ap (λ y. functions.deep y) same ∙ functions_merge.deep_two f in
    let spelled = ap (λ y. length (spelling_fun_lhs y)) same ∙ ap length (functions_merge.tokens_two f) in
    let long = length-append (t.LeftParen ∷ (spelling_fun_lhs f.0 ++ t.RightParen ∷ [])) (spelling_apats f.1) in
    let more = length-append (spelling_fun_lhs f.0) (t.RightParen ∷ []) in
    let inner = low_by n f.0 (function_cases f.0 (and_left (is_fun_lhs f.0) _ is)) (omega arith) in
    let room = apats_room f.1 in
    omega arith

-- what goes on no left side goes on no pattern
pat_quiet : (x : PatTree) (s : Ts) → Quiet s → begins (pats.extends x) s ≡ false
pat_quiet x s quiet =
    begins_within left_goes (pats.extends x) s
    (λ k e. or_from _ _ (or_left (lpat_goes k) _ e)
    (or_left (starts_qconop k) (is_var_sym k) (or_right (lpat_goes k) _ e))) quiet

-- two left sides before what goes on none
one_left : (x y : LeftSide) (s r : Ts) → is_left_side x ≡ true → is_left_side y ≡ true → Quiet s → Quiet r →
    left_tokens x ++ s ≡ left_tokens y ++ r → (y ≡ x) × (r ≡ s)
one_left (v_left.Function x) (v_left.Function y) s r is it still quiet e =
    let one = one_function x y s r is it still quiet e in (ap v_left.Function one.0, one.1)
one_left (v_left.Function x) (v_left.Pattern p) s r is it still quiet e =
    absurd (no_pattern x is p s r it still quiet e)
one_left (v_left.Pattern p) (v_left.Function y) s r is it still quiet e =
    absurd (no_pattern y it p r s is quiet still (sym e))
one_left (v_left.Pattern p) (v_left.Pattern q) s r is it still quiet e =
    let one = (pats_found p is s (pat_quiet p s still)).reads.only s q r (same_start_self s) (it, tt)
    (pat_quiet q r quiet) e in
    (ap v_left.Pattern one.0, one.1)

low : (x : LeftSide) → is_left_side x ≡ true → left_sides.deep x < length (left_tokens x)
low (v_left.Function x) is = low_by (length (spelling_fun_lhs x)) x (function_cases x is) (le_refl _)
low (v_left.Pattern p) is = found_room pats p [] (pats_found p is [] refl)

-- each left side is found
pub lefts_found : (x : LeftSide) → Found left_sides x
lefts_found x good rest quiet =
    read_found left_sides x rest (record {
      good = (good, tt);
      only = λ s other after same it still e.
          one_left x other s after good it.0 (begins_same left_goes rest s same ∙ quiet) still e;
    }) (low x good)
