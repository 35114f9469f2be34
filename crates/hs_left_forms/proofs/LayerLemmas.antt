-- The left sides of functions by their three forms: tokens, well-formedness and depth.
use Rattle.std.proofs.Common.{◌≡◌, ◌+◌, Bool, true, false, [], ◌∷◌, ◌++◌, sym, ap, ◌∙◌, subst, arith}
use Rattle.std.proofs.Common.{append_assoc, inl, inr, ◌⊎◌}
use Rattle.std.specs.Prelude.{map, max, ◌&&◌}
use Rattle.hs_forms.specs.Limits.{deepest}
use Rattle.hs_forms.specs.Forms.{side}
use Rattle.hs_forms.proofs.FormLemmas.{begins_append}
use Rattle.hs_tokens.specs.declared.terminal.Terminal.TheVariants as t
use Rattle.hs_trees.specs.Patterns.{Ts, var_tokens, spelling_apats, spelling_lpat, are_apats, is_lpat}
use Rattle.hs_trees.specs.Patterns.{depth_of_apats, depth_of_lpat, depth_of_pat, starts_apat, starts_pat}
use Rattle.hs_trees.specs.declared.patterns.LPatTree.{LPatTree}
use Rattle.hs_trees.specs.declared.patterns.PatTree.{fold-roll-PatTree}
use Rattle.hs_trees.proofs.PatternLayerLemmas.{pat_deep, apat_pat, var_starts, lpat_starts, starts_pat_append}
use Rattle.hs_trees.proofs.PatternChainLemmas.{make_pat}
use Rattle.hs_modules.specs.Extents.{Extent, depth_of}
use Rattle.hs_modules.specs.PartExtents.{apat_extent, lpat_extent, op_lpat_extent, pat_extent, fun_lhs_extent}
use Rattle.hs_modules.specs.PartExtents.{extent_of_apat, extent_of_lpat, extent_of_pat, extent_of_fun_lhs}
use Rattle.hs_modules.specs.Words.{varop_tokens}
use Rattle.hs_modules.specs.Tokens.{fun_lhs_tokens, spelling_fun_lhs}
use Rattle.hs_modules.specs.Formed.{fun_lhs_formed, is_fun_lhs}
use Rattle.hs_modules.specs.declared.expressions.FunLhsTree.{FunLhsTree, FunLhsTree-F, fold-roll-FunLhsTree}
use Rattle.hs_modules.specs.declared.expressions.FunLhsTree.{out-FunLhsTree, roll-FunLhsTree, roll-out-FunLhsTree}
use Rattle.hs_modules.specs.declared.expressions.FunLhsTree.TheVariants as f
use Rattle.hs_modules.proofs.PartDepthLemmas.{pat_depth_is}
use Rattle.hs_expression_forms.proofs.OperandLayerLemmas.{apat_depth_is, deepest_apats}
use Rattle.hs_declaration_forms.proofs.MergeLemmas.{Merges, Side, of_one, of_two}
use Rattle.hs_left_forms.specs.Lefts.{PrefixParts, InfixParts, WrappedParts, bare, wrapped, functions}

-- a layer of the left side of a function
abbrev pub FLayer : Type 0
FLayer = FunLhsTree-F FunLhsTree

-- a name with arguments, from its parts
abbrev pub make_prefix : PrefixParts → FunLhsTree
make_prefix p = f.Prefix p.0 p.1.0 p.1.1

-- an operator between operands
abbrev pub make_infix : InfixParts → FunLhsTree
make_infix p = f.Infix p.0 p.1.0 p.1.1

-- brackets with arguments
abbrev pub make_wrapped : WrappedParts → FunLhsTree
make_wrapped p = f.Parens p.0 p.1.0 p.1.1

-- one of the two without brackets
abbrev pub make_bare : PrefixParts ⊎ InfixParts → FunLhsTree
make_bare = side make_prefix make_infix

-- the depth of the extent of an `lpat`
lpat_depth_is : (x : LPatTree) → (extent_of_lpat x).depth ≡ depth_of_lpat x
lpat_depth_is x =
    let p : (extent_of_pat (make_pat x [])).depth ≡ max (extent_of_lpat x).depth 0 + 0 =
    ap depth_of (fold-roll-PatTree Extent Extent Extent Extent apat_extent lpat_extent op_lpat_extent pat_extent
    (record { first = x; rest = [] })) in
    let d : depth_of_pat (make_pat x []) ≡ max (depth_of_lpat x) 0 + 0 = pat_deep (record { first = x; rest = [] }) in
    omega (arith, p, d, pat_depth_is (make_pat x []))

-- the tokens of a name with arguments
pub prefix_spelled : (p : PrefixParts) → spelling_fun_lhs (make_prefix p) ≡ var_tokens p.0 ++ spelling_apats p.1
prefix_spelled p =
    ap spelling_fun_lhs (sym (f.rolls-Prefix p.0 p.1.0 p.1.1))
    ∙ fold-roll-FunLhsTree Ts fun_lhs_tokens (FunLhsTree-F.Prefix p.0 p.1.0 p.1.1)

-- the tokens of an operator between operands
pub infix_spelled : (p : InfixParts) → spelling_fun_lhs (make_infix p) ≡ spelling_lpat p.0
    ++ (varop_tokens p.1.0 ++ spelling_lpat p.1.1)
infix_spelled p =
    ap spelling_fun_lhs (sym (f.rolls-Infix p.0 p.1.0 p.1.1))
    ∙ fold-roll-FunLhsTree Ts fun_lhs_tokens (FunLhsTree-F.Infix p.0 p.1.0 p.1.1)

-- the tokens of brackets with arguments
pub wrapped_spelled : (p : WrappedParts) → spelling_fun_lhs (make_wrapped p) ≡ wrapped.tokens p
wrapped_spelled p =
    ap spelling_fun_lhs (sym (f.rolls-Parens p.0 p.1.0 p.1.1))
    ∙ fold-roll-FunLhsTree Ts fun_lhs_tokens (FunLhsTree-F.Parens p.0 p.1.0 p.1.1)
    ∙ ap (λ l. t.LeftParen ∷ l) (sym (append_assoc (spelling_fun_lhs p.0) (t.RightParen ∷ []) (spelling_apats p.1)))

-- whether a name with arguments is well formed
pub prefix_is : (p : PrefixParts) → is_fun_lhs (make_prefix p) ≡ are_apats p.1
prefix_is p =
    ap is_fun_lhs (sym (f.rolls-Prefix p.0 p.1.0 p.1.1))
    ∙ fold-roll-FunLhsTree Bool fun_lhs_formed (FunLhsTree-F.Prefix p.0 p.1.0 p.1.1)

-- whether an operator between operands is well formed
pub infix_is : (p : InfixParts) → is_fun_lhs (make_infix p) ≡ is_lpat p.0 && is_lpat p.1.1
infix_is p =
    ap is_fun_lhs (sym (f.rolls-Infix p.0 p.1.0 p.1.1))
    ∙ fold-roll-FunLhsTree Bool fun_lhs_formed (FunLhsTree-F.Infix p.0 p.1.0 p.1.1)

-- whether brackets with arguments are well formed
pub wrapped_is : (p : WrappedParts) → is_fun_lhs (make_wrapped p) ≡ is_fun_lhs p.0 && are_apats p.1
wrapped_is p =
    ap is_fun_lhs (sym (f.rolls-Parens p.0 p.1.0 p.1.1))
    ∙ fold-roll-FunLhsTree Bool fun_lhs_formed (FunLhsTree-F.Parens p.0 p.1.0 p.1.1)

-- the depth of a name with arguments
prefix_deep : (p : PrefixParts) → functions.deep (make_prefix p) ≡ max 0 (depth_of_apats p.1)
prefix_deep p =
    let e : functions.deep (make_prefix p) ≡ max (extent_of_apat p.1.0).depth
    (deepest (map depth_of (map extent_of_apat p.1.1))) =
    ap (λ x. (extent_of_fun_lhs x).depth) (sym (f.rolls-Prefix p.0 p.1.0 p.1.1))
    ∙ ap depth_of (fold-roll-FunLhsTree Extent fun_lhs_extent (FunLhsTree-F.Prefix p.0 p.1.0 p.1.1)) in
    omega (arith, e, apat_depth_is p.1.0, deepest_apats p.1.1)

-- the depth of an operator between operands
infix_deep : (p : InfixParts) → functions.deep (make_infix p) ≡ max (depth_of_lpat p.0) (max 0 (depth_of_lpat p.1.1))
infix_deep p =
    let e : functions.deep (make_infix p) ≡ max (extent_of_lpat p.0).depth (extent_of_lpat p.1.1).depth =
    ap (λ x. (extent_of_fun_lhs x).depth) (sym (f.rolls-Infix p.0 p.1.0 p.1.1))
    ∙ ap depth_of (fold-roll-FunLhsTree Extent fun_lhs_extent (FunLhsTree-F.Infix p.0 p.1.0 p.1.1)) in
    omega (arith, e, lpat_depth_is p.0, lpat_depth_is p.1.1)

-- the depth of brackets with arguments
wrapped_deep : (p : WrappedParts) → functions.deep (make_wrapped p) ≡ max (functions.deep p.0 + 1) (depth_of_apats p.1)
wrapped_deep p =
    let e : functions.deep (make_wrapped p) ≡ max (max ((extent_of_fun_lhs p.0).depth + 1) (extent_of_apat p.1.0).depth)
    (deepest (map depth_of (map extent_of_apat p.1.1))) =
    ap (λ x. (extent_of_fun_lhs x).depth) (sym (f.rolls-Parens p.0 p.1.0 p.1.1))
    ∙ ap depth_of (fold-roll-FunLhsTree Extent fun_lhs_extent (FunLhsTree-F.Parens p.0 p.1.0 p.1.1)) in
    omega (arith, e, apat_depth_is p.1.0, deepest_apats p.1.1)

-- the forms of a well formed left side
layer_cases : (x : FLayer) → is_fun_lhs (roll-FunLhsTree x) ≡ true →
    Side bare wrapped make_bare make_wrapped (roll-FunLhsTree x)
layer_cases (FunLhsTree-F.Prefix v a ps) h =
    let same = f.rolls-Prefix v a ps in
    of_one (inl (v, (a, ps))) same (sym (prefix_is (v, (a, ps))) ∙ ap is_fun_lhs (sym same) ∙ h)
layer_cases (FunLhsTree-F.Infix l op r) h =
    let same = f.rolls-Infix l op r in
    of_one (inr (l, (op, r))) same (sym (infix_is (l, (op, r))) ∙ ap is_fun_lhs (sym same) ∙ h)
layer_cases (FunLhsTree-F.Parens x a ps) h =
    let same = f.rolls-Parens x a ps in
    of_two (x, (a, ps)) same (sym (wrapped_is (x, (a, ps))) ∙ ap is_fun_lhs (sym same) ∙ h)

-- a well formed left side of a function is one of the three
pub function_cases : (x : FunLhsTree) → is_fun_lhs x ≡ true → Side bare wrapped make_bare make_wrapped x
function_cases x h =
    subst (Side bare wrapped make_bare make_wrapped) (roll-out-FunLhsTree x)
    (layer_cases (out-FunLhsTree x) (ap is_fun_lhs (roll-out-FunLhsTree x) ∙ h))

-- each left side of a function is one of the three
pub functions_merge : Merges bare wrapped functions make_bare make_wrapped
functions_merge = record {
  tokens_one = λ p. tokens_one p;
  tokens_two = wrapped_spelled;
  formed_one = λ p h. formed_one p h;
  formed_two = λ p h. wrapped_is p ∙ h;
  deep_one = λ p. deep_one p;
  deep_two = wrapped_deep;
  extends_one = λ p k e. extends_one p k e;
  extends_two = λ p k e. e;
  cases = function_cases;
}
  where
    tokens_one : (p : PrefixParts ⊎ InfixParts) → functions.tokens (make_bare p) ≡ bare.tokens p
    tokens_one (inl p) = prefix_spelled p
    tokens_one (inr p) = infix_spelled p

    formed_one : (p : PrefixParts ⊎ InfixParts) → bare.formed p ≡ true → functions.formed (make_bare p) ≡ true
    formed_one (inl p) h = prefix_is p ∙ h
    formed_one (inr p) h = infix_is p ∙ h

    deep_one : (p : PrefixParts ⊎ InfixParts) → functions.deep (make_bare p) ≡ bare.deep p
    deep_one (inl p) = prefix_deep p
    deep_one (inr p) = infix_deep p

    extends_one : (p : PrefixParts ⊎ InfixParts) (k : _) → functions.extends (make_bare p) k ≡ false →
        bare.extends p k ≡ false
    extends_one (inl p) k e = e
    extends_one (inr p) k e = e

-- the left side of a function begins as a pattern
starts_layer : (x : FLayer) → starts_pat (spelling_fun_lhs (roll-FunLhsTree x)) ≡ true
starts_layer (FunLhsTree-F.Prefix v a ps) =
    ap starts_pat (fold-roll-FunLhsTree Ts fun_lhs_tokens (FunLhsTree-F.Prefix v a ps))
    ∙ apat_pat _ (begins_append starts_apat (var_tokens v) _ (var_starts v))
starts_layer (FunLhsTree-F.Infix l op r) =
    ap starts_pat (fold-roll-FunLhsTree Ts fun_lhs_tokens (FunLhsTree-F.Infix l op r))
    ∙ starts_pat_append (spelling_lpat l) _ (lpat_starts l)
starts_layer (FunLhsTree-F.Parens x a ps) =
    ap starts_pat (fold-roll-FunLhsTree Ts fun_lhs_tokens (FunLhsTree-F.Parens x a ps))

-- each left side of a function begins as a pattern
pub function_starts : (x : FunLhsTree) → starts_pat (spelling_fun_lhs x) ≡ true
function_starts x =
    subst (λ y. starts_pat (spelling_fun_lhs y) ≡ true) (roll-out-FunLhsTree x) (starts_layer (out-FunLhsTree x))
