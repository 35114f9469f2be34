-- At most one left side has given tokens.
use Rattle.std.proofs.Common.{◌≡◌, ℕ, zero, suc, ◌≤◌, true, [], ◌∷◌, ◌++◌, length, refl, sym, ap}
use Rattle.std.proofs.Common.{◌∙◌, arith, append_assoc, length-append, le_refl, inl, inr}
use Rattle.std.specs.Prelude.{None}
use Rattle.hs_forms.specs.Whole.{Spells}
use Rattle.hs_forms.proofs.FormLemmas.{uncons}
use Rattle.hs_forms.proofs.LimitLemmas.{and_left, and_right}
use Rattle.hs_tokens.specs.declared.terminal.Terminal.TheVariants as t
use Rattle.hs_trees.specs.Patterns.{Ts, var_tokens, spelling_apats, spelling_lpat, spelling_pat, is_lpat, is_pat}
use Rattle.hs_trees.specs.declared.patterns.VarTree.{VarTree}
use Rattle.hs_trees.specs.declared.patterns.VarTree.TheVariants as v
use Rattle.hs_trees.specs.declared.patterns.PatTree.{PatTree}
use Rattle.hs_trees.proofs.PatternUniqueLemmas.{one_pattern}
use Rattle.hs_modules.specs.Words.{varop_tokens}
use Rattle.hs_modules.specs.Tokens.{spelling_fun_lhs}
use Rattle.hs_modules.specs.Formed.{is_fun_lhs}
use Rattle.hs_modules.specs.declared.names.VarOpTree.{VarOpTree}
use Rattle.hs_modules.specs.declared.names.VarOpTree.TheVariants as o
use Rattle.hs_modules.specs.declared.expressions.FunLhsTree.{FunLhsTree}
use Rattle.hs_expression_forms.specs.Trees.{within}
use Rattle.hs_declaration_forms.proofs.MergeLemmas.{Side, of_one, of_two}
use Rattle.hs_left_forms.specs.Lefts.{PrefixParts, InfixParts, WrappedParts, prefixes, infixes, bare, wrapped}
use Rattle.hs_left_forms.specs.Lefts.{left_sides}
use Rattle.hs_left_forms.specs.declared.left_side.LeftSide.{LeftSide}
use Rattle.hs_left_forms.specs.declared.left_side.LeftSide.TheVariants as v_left
use Rattle.hs_left_forms.proofs.LayerLemmas.{make_prefix, make_infix, make_wrapped, make_bare, prefix_spelled}
use Rattle.hs_left_forms.proofs.LayerLemmas.{infix_spelled, wrapped_spelled, function_cases}
use Rattle.hs_left_forms.proofs.ApartLemmas.{Quiet, quiet_lpat, one_lpat, one_apats, varop_quiet, wrapped_split}
use Rattle.hs_left_forms.proofs.ApartLemmas.{prefix_no_infix, prefix_no_wrapped, infix_no_wrapped, no_pattern}

-- two names of variables with the same tokens are one
one_var : (x y : VarTree) (s r : Ts) → var_tokens x ++ s ≡ var_tokens y ++ r → (y ≡ x) × (r ≡ s)
one_var (v.Id n) (v.Id m) s r e = let same : m ≡ n = cc in (ap v.Id same, cc)
one_var (v.Id n) (v.Sym m) s r e = absurd cc
one_var (v.Sym n) (v.Id m) s r e = absurd cc
one_var (v.Sym n) (v.Sym m) s r e = let same : m ≡ n = cc in (ap v.Sym same, cc)

-- two variable operators with the same tokens are one
one_varop : (x y : VarOpTree) (s r : Ts) → varop_tokens x ++ s ≡ varop_tokens y ++ r → (y ≡ x) × (r ≡ s)
one_varop (o.Sym n) (o.Sym m) s r e = let same : m ≡ n = cc in (ap o.Sym same, cc)
one_varop (o.Sym n) (o.Quoted m) s r e = absurd cc
one_varop (o.Quoted n) (o.Sym m) s r e = absurd cc
one_varop (o.Quoted n) (o.Quoted m) s r e = let same : m ≡ n = cc in (ap o.Quoted same, cc)

-- two names with arguments and the same tokens are one
one_prefix : (f h : PrefixParts) (s r : Ts) → prefixes.formed f ≡ true → prefixes.formed h ≡ true → Quiet s → Quiet r →
    prefixes.tokens f ++ s ≡ prefixes.tokens h ++ r → (h ≡ f) × (r ≡ s)
one_prefix f h s r is it quiet_s quiet_r e =
    let name = one_var f.0 h.0 (spelling_apats f.1 ++ s) (spelling_apats h.1 ++ r)
    (sym (append_assoc (var_tokens f.0) (spelling_apats f.1) s) ∙ e
    ∙ append_assoc (var_tokens h.0) (spelling_apats h.1) r) in
    let args = one_apats f.1 h.1 s r is it (quiet_lpat s quiet_s) (quiet_lpat r quiet_r) (sym name.1) in
    let whole : h ≡ f = λ i. (name.0 i, args.0 i) in
    (whole, args.1)

-- an operator between operands, with what stands behind it
infix_split : (f : InfixParts) (s : Ts) → infixes.tokens f ++ s ≡ spelling_lpat f.0 ++ (varop_tokens f.1.0
    ++ (spelling_lpat f.1.1 ++ s))
infix_split f s = simp append_assoc

-- two operators between operands with the same tokens are one
one_infix : (f h : InfixParts) (s r : Ts) → infixes.formed f ≡ true → infixes.formed h ≡ true → Quiet s → Quiet r →
    infixes.tokens f ++ s ≡ infixes.tokens h ++ r → (h ≡ f) × (r ≡ s)
one_infix f h s r is it quiet_s quiet_r e =
    let left = one_lpat f.0 h.0 _ _ (and_left (is_lpat f.0) _ is) (and_left (is_lpat h.0) _ it)
    (varop_quiet f.1.0 (spelling_lpat f.1.1 ++ s)) (varop_quiet h.1.0 (spelling_lpat h.1.1 ++ r))
    (sym (infix_split f s) ∙ e ∙ infix_split h r) in
    let op = one_varop f.1.0 h.1.0 (spelling_lpat f.1.1 ++ s) (spelling_lpat h.1.1 ++ r) (sym left.1) in
    let right = one_lpat f.1.1 h.1.1 s r (and_right (is_lpat f.0) _ is) (and_right (is_lpat h.0) _ it)
    (quiet_lpat s quiet_s) (quiet_lpat r quiet_r) (sym op.1) in
    let whole : h ≡ f = λ i. (left.0 i, (op.0 i, right.0 i)) in
    (whole, right.1)

-- No other left side has the tokens of this one, before what goes on none.
abbrev pub Alone : FunLhsTree → Type 0
Alone x =
    (y : FunLhsTree) (s r : Ts) → is_fun_lhs y ≡ true → Quiet s → Quiet r →
    spelling_fun_lhs x ++ s ≡ spelling_fun_lhs y ++ r → (y ≡ x) × (r ≡ s)

-- two left sides in brackets with the same tokens are one
one_wrapped : (f h : WrappedParts) → Alone f.0 → (s r : Ts) → wrapped.formed f ≡ true → wrapped.formed h ≡ true →
    Quiet s → Quiet r → wrapped.tokens f ++ s ≡ wrapped.tokens h ++ r → (h ≡ f) × (r ≡ s)
one_wrapped f h alone s r is it quiet_s quiet_r e =
    let inner = alone h.0 (t.RightParen ∷ (spelling_apats f.1 ++ s)) (t.RightParen ∷ (spelling_apats h.1 ++ r))
    (and_left (is_fun_lhs h.0) _ it) refl refl
    (uncons t.LeftParen _ _ (sym (wrapped_split f s) ∙ e ∙ wrapped_split h r)) in
    let args = one_apats f.1 h.1 s r (and_right (is_fun_lhs f.0) _ is) (and_right (is_fun_lhs h.0) _ it)
    (quiet_lpat s quiet_s) (quiet_lpat r quiet_r) (uncons t.RightParen _ _ (sym inner.1)) in
    let whole : h ≡ f = λ i. (inner.0 i, args.0 i) in
    (whole, args.1)

-- the tokens of parts for those of trees
parts_for : (a b c d s r : Ts) → a ≡ b → c ≡ d → a ++ s ≡ c ++ r → b ++ s ≡ d ++ r
parts_for a b c d s r p q e = sym (ap (λ l. l ++ s) p) ∙ e ∙ ap (λ l. l ++ r) q

-- by the number of tokens
one_function_by : (n : ℕ) (x y : FunLhsTree) → Side bare wrapped make_bare make_wrapped x →
    Side bare wrapped make_bare make_wrapped y → length (spelling_fun_lhs x) ≤ n → (s r : Ts) → Quiet s → Quiet r →
    spelling_fun_lhs x ++ s ≡ spelling_fun_lhs y ++ r → (y ≡ x) × (r ≡ s)
one_function_by n x y (of_one (inl f) same is) (of_one (inl h) same' it) short s r quiet_s quiet_r e =
    let found = one_prefix f h s r is it quiet_s quiet_r
    (parts_for _ _ _ _ s r (ap spelling_fun_lhs same ∙ prefix_spelled f)
    (ap spelling_fun_lhs same' ∙ prefix_spelled h) e)
    in
    (same' ∙ ap make_prefix found.0 ∙ sym same, found.1)
one_function_by n x y (of_one (inl f) same is) (of_one (inr h) same' it) short s r quiet_s quiet_r e =
    absurd (prefix_no_infix f h s r it
    (parts_for _ _ _ _ s r (ap spelling_fun_lhs same ∙ prefix_spelled f)
    (ap spelling_fun_lhs same' ∙ infix_spelled h) e))
one_function_by n x y (of_one (inl f) same is) (of_two h same' it) short s r quiet_s quiet_r e =
    absurd (prefix_no_wrapped f h s r
    (parts_for _ _ _ _ s r (ap spelling_fun_lhs same ∙ prefix_spelled f)
    (ap spelling_fun_lhs same' ∙ wrapped_spelled h) e))
one_function_by n x y (of_one (inr f) same is) (of_one (inl h) same' it) short s r quiet_s quiet_r e =
    absurd (prefix_no_infix h f r s is
    (sym (parts_for _ _ _ _ s r (ap spelling_fun_lhs same ∙ infix_spelled f)
    (ap spelling_fun_lhs same' ∙ prefix_spelled h) e)))
one_function_by n x y (of_one (inr f) same is) (of_one (inr h) same' it) short s r quiet_s quiet_r e =
    let found = one_infix f h s r is it quiet_s quiet_r
    (parts_for _ _ _ _ s r (ap spelling_fun_lhs same ∙ infix_spelled f) (ap spelling_fun_lhs same' ∙ infix_spelled h) e)
    in
    (same' ∙ ap make_infix found.0 ∙ sym same, found.1)
one_function_by n x y (of_one (inr f) same is) (of_two h same' it) short s r quiet_s quiet_r e =
    absurd (infix_no_wrapped f h s r is it
    (parts_for _ _ _ _ s r (ap spelling_fun_lhs same ∙ infix_spelled f)
    (ap spelling_fun_lhs same' ∙ wrapped_spelled h) e))
one_function_by n x y (of_two f same is) (of_one (inl h) same' it) short s r quiet_s quiet_r e =
    absurd (prefix_no_wrapped h f r s
    (sym (parts_for _ _ _ _ s r (ap spelling_fun_lhs same ∙ wrapped_spelled f)
    (ap spelling_fun_lhs same' ∙ prefix_spelled h) e)))
one_function_by n x y (of_two f same is) (of_one (inr h) same' it) short s r quiet_s quiet_r e =
    absurd (infix_no_wrapped h f r s it is
    (sym (parts_for _ _ _ _ s r (ap spelling_fun_lhs same ∙ wrapped_spelled f)
    (ap spelling_fun_lhs same' ∙ infix_spelled h) e)))
one_function_by zero x y (of_two f same is) (of_two h same' it) short s r quiet_s quiet_r e =
    absurd (omega (arith, ap length (ap spelling_fun_lhs same ∙ wrapped_spelled f), short))
one_function_by (suc n) x y (of_two f same is) (of_two h same' it) short s r quiet_s quiet_r e =
    let len : length (spelling_fun_lhs f.0) ≤ n =
    omega (
      arith,
      ap length (ap spelling_fun_lhs same ∙ wrapped_spelled f),
      length-append (t.LeftParen ∷ (spelling_fun_lhs f.0 ++ t.RightParen ∷ [])) (spelling_apats f.1),
      length-append (spelling_fun_lhs f.0) (t.RightParen ∷ []),
      short,
    ) in
    let inner = function_cases f.0 (and_left (is_fun_lhs f.0) _ is) in
    let found = one_wrapped f h (λ z a b good. one_function_by n f.0 z inner (function_cases z good) len a b) s r is it
    quiet_s quiet_r
    (parts_for _ _ _ _ s r (ap spelling_fun_lhs same ∙ wrapped_spelled f)
    (ap spelling_fun_lhs same' ∙ wrapped_spelled h) e) in
    (same' ∙ ap make_wrapped found.0 ∙ sym same, found.1)

-- Two left sides of functions, before what goes on none, are one if their tokens are the same.
pub one_function : (x y : FunLhsTree) (s r : Ts) → is_fun_lhs x ≡ true → is_fun_lhs y ≡ true → Quiet s → Quiet r →
    spelling_fun_lhs x ++ s ≡ spelling_fun_lhs y ++ r → (y ≡ x) × (r ≡ s)
one_function x y s r is it quiet_s quiet_r e =
    one_function_by (length (spelling_fun_lhs x)) x y (function_cases x is) (function_cases y it) (le_refl _) s r
    quiet_s quiet_r e

-- no list of tokens is both a function's left side and a pattern
pub no_both : (x : FunLhsTree) (p : PatTree) → is_fun_lhs x ≡ true → is_pat p ≡ true →
    spelling_fun_lhs x ≡ spelling_pat p → ⊥
no_both x p is it e = no_pattern x is p [] [] it refl refl (ap (λ l. l ++ []) e)

-- at most one left side has given tokens
pub one_left : (ts : Ts) (x y : LeftSide) → Spells (within left_sides None) x ts →
    Spells (within left_sides None) y ts → y ≡ x
one_left ts (v_left.Function x) (v_left.Function y) one two =
    ap v_left.Function (one_function x y [] [] one.1.0 two.1.0 refl refl (ap (λ l. l ++ []) (sym one.0 ∙ two.0))).0
one_left ts (v_left.Function x) (v_left.Pattern p) one two = absurd (no_both x p one.1.0 two.1.0 (sym one.0 ∙ two.0))
one_left ts (v_left.Pattern p) (v_left.Function y) one two = absurd (no_both y p two.1.0 one.1.0 (sym two.0 ∙ one.0))
one_left ts (v_left.Pattern p) (v_left.Pattern q) one two = ap v_left.Pattern (one_pattern ts p q one two)
