-- The `aexp` from its parts.
use Rattle.std.proofs.Common.{◌≡◌, ◌+◌, true, List, [], ◌∷◌, ◌++◌, length, refl, sym, ap, ◌∙◌, subst}
use Rattle.std.specs.Prelude.{map, max, ◌&&◌, nat_lt, not, None}
use Rattle.std.proofs.lemmas.List.Folds.{flat_map-map}
use Rattle.hs_forms.specs.Reading.{begins}
use Rattle.hs_forms.specs.Limits.{all_of}
use Rattle.hs_tokens.specs.declared.terminal.Terminal.TheVariants as t
use Rattle.hs_trees.specs.Patterns.{Ts, literal_token, gcon_tokens, is_gcon}
use Rattle.hs_trees.proofs.TypeLayerLemmas.{length_of_map}
use Rattle.hs_trees.specs.declared.patterns.LiteralTree.{LiteralTree}
use Rattle.hs_trees.specs.declared.patterns.LiteralTree.TheVariants as l
use Rattle.hs_trees.specs.declared.patterns.GConTree.{GConTree}
use Rattle.hs_trees.specs.declared.patterns.GConTree.TheVariants as g
use Rattle.hs_modules.specs.Extents.{depth_of}
use Rattle.hs_modules.specs.ExpressionExtents.{extent_algebra, extent_of_exp}
use Rattle.hs_modules.specs.Tokens.{token_algebra, spelling_exp, spelling_aexp, spelling_infix}
use Rattle.hs_modules.specs.Words.{qvar_tokens, qop_tokens, is_bare_minus}
use Rattle.hs_modules.specs.Formed.{fact_algebra, good_of, facts_of_exp, facts_of_infix}
use Rattle.hs_modules.specs.declared.names.QVarTree.{QVarTree}
use Rattle.hs_modules.specs.declared.names.QVarTree.TheVariants as q
use Rattle.hs_modules.specs.declared.names.QOpTree.{QOpTree}
use Rattle.hs_modules.specs.declared.expressions.AExpTree.{AExpTree, AExpTree-F, out-AExpTree, roll-AExpTree}
use Rattle.hs_modules.specs.declared.expressions.AExpTree.{roll-out-AExpTree}
use Rattle.hs_modules.specs.declared.expressions.AExpTree.TheVariants as a
use Rattle.hs_modules.specs.declared.expressions.ExpTree.{ExpTree}
use Rattle.hs_modules.specs.declared.expressions.InfixTree.{InfixTree}
use Rattle.hs_modules.proofs.FoldingLemmas.{AExpTrees, aexp_folded}
use Rattle.hs_expression_forms.specs.Expressions.{is_exp, is_aexp, is_infix, depth_of_aexp, depth_of_exp}
use Rattle.hs_expression_forms.specs.Expressions.{depth_of_infix, exp_parts, starts_aexp}
use Rattle.hs_expression_forms.proofs.OperandLayerLemmas.{deepest_of, all_good_of}

pub var_spelled : (x : QVarTree) → spelling_aexp (a.Var x) ≡ qvar_tokens x
unfolding token_algebra
var_spelled x = ap spelling_aexp (sym (a.rolls-Var x)) ∙ aexp_folded token_algebra (AExpTree-F.Var x)

pub var_is : (x : QVarTree) → is_aexp (a.Var x) ≡ true
unfolding fact_algebra
var_is x = ap is_aexp (sym (a.rolls-Var x)) ∙ ap good_of (aexp_folded fact_algebra (AExpTree-F.Var x))

pub var_deep : (x : QVarTree) → depth_of_aexp (a.Var x) ≡ 0
unfolding extent_algebra
var_deep x = ap (λ y. depth_of_aexp y) (sym (a.rolls-Var x)) ∙ ap depth_of (aexp_folded extent_algebra
    (AExpTree-F.Var x))

pub con_spelled : (x : GConTree) → spelling_aexp (a.Con x) ≡ gcon_tokens x
unfolding token_algebra
con_spelled x = ap spelling_aexp (sym (a.rolls-Con x)) ∙ aexp_folded token_algebra (AExpTree-F.Con x)

pub con_is : (x : GConTree) → is_aexp (a.Con x) ≡ is_gcon x
unfolding fact_algebra
con_is x = ap is_aexp (sym (a.rolls-Con x)) ∙ ap good_of (aexp_folded fact_algebra (AExpTree-F.Con x))

pub con_deep : (x : GConTree) → depth_of_aexp (a.Con x) ≡ 0
unfolding extent_algebra
con_deep x = ap (λ y. depth_of_aexp y) (sym (a.rolls-Con x)) ∙ ap depth_of (aexp_folded extent_algebra
    (AExpTree-F.Con x))

pub literal_spelled : (x : LiteralTree) → spelling_aexp (a.Literal x) ≡ literal_token x ∷ []
unfolding token_algebra
literal_spelled x = ap spelling_aexp (sym (a.rolls-Literal x)) ∙ aexp_folded token_algebra (AExpTree-F.Literal x)

pub literal_is : (x : LiteralTree) → is_aexp (a.Literal x) ≡ true
unfolding fact_algebra
literal_is x = ap is_aexp (sym (a.rolls-Literal x)) ∙ ap good_of (aexp_folded fact_algebra (AExpTree-F.Literal x))

pub literal_deep : (x : LiteralTree) → depth_of_aexp (a.Literal x) ≡ 0
unfolding extent_algebra
literal_deep x =
    ap (λ y. depth_of_aexp y) (sym (a.rolls-Literal x)) ∙ ap depth_of (aexp_folded extent_algebra
    (AExpTree-F.Literal x))

abbrev pub Parts : Type 0
Parts = ExpTree × List ExpTree

pub parts_spelled : (p : Parts) →
    spelling_aexp (a.Parts p.0 p.1) ≡ t.LeftParen ∷ ((exp_parts None).tokens p ++ t.RightParen ∷ [])
unfolding token_algebra
parts_spelled p =
    ap spelling_aexp (sym (a.rolls-Parts p.0 p.1)) ∙ aexp_folded token_algebra (AExpTree-F.Parts p.0 p.1)
    ∙ ap (λ ts. t.LeftParen ∷ ((spelling_exp p.0 ++ ts) ++ t.RightParen ∷ []))
    (flat_map-map (λ x. t.Comma ∷ x) spelling_exp p.1)

pub parts_is : (p : Parts) →
    is_aexp (a.Parts p.0 p.1) ≡ nat_lt (length p.1) 15 && (is_exp p.0 && all_of (map is_exp p.1))
unfolding fact_algebra
parts_is p =
    ap is_aexp (sym (a.rolls-Parts p.0 p.1)) ∙ ap good_of (aexp_folded fact_algebra (AExpTree-F.Parts p.0 p.1))
    ∙ ap (λ n. nat_lt n 15 && (is_exp p.0 && all_of (map good_of (map facts_of_exp p.1))))
    (length_of_map facts_of_exp p.1)
    ∙ ap (λ b. nat_lt (length p.1) 15 && (is_exp p.0 && b)) (all_good_of facts_of_exp p.1)

pub parts_deep : (p : Parts) → depth_of_aexp (a.Parts p.0 p.1) ≡ (exp_parts None).deep p + 1
unfolding extent_algebra
parts_deep p =
    ap (λ y. depth_of_aexp y) (sym (a.rolls-Parts p.0 p.1))
    ∙ ap depth_of (aexp_folded extent_algebra (AExpTree-F.Parts p.0 p.1))
    ∙ ap (λ n. max (depth_of_exp p.0) n + 1) (deepest_of extent_of_exp p.1)

pub list_spelled : (p : Parts) →
    spelling_aexp (a.List p.0 p.1) ≡ t.LeftBracket ∷ ((exp_parts None).tokens p ++ t.RightBracket ∷ [])
unfolding token_algebra
list_spelled p =
    ap spelling_aexp (sym (a.rolls-List p.0 p.1)) ∙ aexp_folded token_algebra (AExpTree-F.List p.0 p.1)
    ∙ ap (λ ts. t.LeftBracket ∷ ((spelling_exp p.0 ++ ts) ++ t.RightBracket ∷ []))
    (flat_map-map (λ x. t.Comma ∷ x) spelling_exp p.1)

pub list_is : (p : Parts) → is_aexp (a.List p.0 p.1) ≡ (exp_parts None).formed p
unfolding fact_algebra
list_is p =
    ap is_aexp (sym (a.rolls-List p.0 p.1)) ∙ ap good_of (aexp_folded fact_algebra (AExpTree-F.List p.0 p.1))
    ∙ ap (λ b. is_exp p.0 && b) (all_good_of facts_of_exp p.1)

pub list_deep : (p : Parts) → depth_of_aexp (a.List p.0 p.1) ≡ (exp_parts None).deep p + 1
unfolding extent_algebra
list_deep p =
    ap (λ y. depth_of_aexp y) (sym (a.rolls-List p.0 p.1))
    ∙ ap depth_of (aexp_folded extent_algebra (AExpTree-F.List p.0 p.1))
    ∙ ap (λ n. max (depth_of_exp p.0) n + 1) (deepest_of extent_of_exp p.1)

pub left_spelled : (x : InfixTree) (op : QOpTree) →
    spelling_aexp (a.LeftSection x op) ≡ t.LeftParen ∷ (spelling_infix x ++ (qop_tokens op ++ t.RightParen ∷ []))
unfolding token_algebra
left_spelled x op =
    ap spelling_aexp (sym (a.rolls-LeftSection x op)) ∙ aexp_folded token_algebra (AExpTree-F.LeftSection x op)

pub left_is : (x : InfixTree) (op : QOpTree) →
    is_aexp (a.LeftSection x op) ≡ is_infix x && not (facts_of_infix x).is_open
unfolding fact_algebra
left_is x op =
    ap is_aexp (sym (a.rolls-LeftSection x op)) ∙ ap good_of (aexp_folded fact_algebra (AExpTree-F.LeftSection x op))

pub left_deep : (x : InfixTree) (op : QOpTree) → depth_of_aexp (a.LeftSection x op) ≡ depth_of_infix x + 1
unfolding extent_algebra
left_deep x op =
    ap (λ y. depth_of_aexp y) (sym (a.rolls-LeftSection x op))
    ∙ ap depth_of (aexp_folded extent_algebra (AExpTree-F.LeftSection x op))

pub right_spelled : (op : QOpTree) (x : InfixTree) →
    spelling_aexp (a.RightSection op x) ≡ t.LeftParen ∷ (qop_tokens op ++ (spelling_infix x ++ t.RightParen ∷ []))
unfolding token_algebra
right_spelled op x =
    ap spelling_aexp (sym (a.rolls-RightSection op x)) ∙ aexp_folded token_algebra (AExpTree-F.RightSection op x)

pub right_is : (op : QOpTree) (x : InfixTree) → is_aexp (a.RightSection op x) ≡ not (is_bare_minus op) && is_infix x
unfolding fact_algebra
right_is op x =
    ap is_aexp (sym (a.rolls-RightSection op x)) ∙ ap good_of (aexp_folded fact_algebra (AExpTree-F.RightSection op x))

pub right_deep : (op : QOpTree) (x : InfixTree) → depth_of_aexp (a.RightSection op x) ≡ depth_of_infix x + 1
unfolding extent_algebra
right_deep op x =
    ap (λ y. depth_of_aexp y) (sym (a.rolls-RightSection op x))
    ∙ ap depth_of (aexp_folded extent_algebra (AExpTree-F.RightSection op x))

-- the first token
qvar_starts : (x : QVarTree) → begins starts_aexp (qvar_tokens x) ≡ true
qvar_starts (q.Id n) = refl
qvar_starts (q.Sym n) = refl
qvar_starts (q.QualifiedId n) = refl
qvar_starts (q.QualifiedSym n) = refl

gcon_starts : (x : GConTree) → begins starts_aexp (gcon_tokens x) ≡ true
gcon_starts g.Unit = refl
gcon_starts g.List = refl
gcon_starts (g.Tuple n) = refl
gcon_starts (g.Con n) = refl
gcon_starts (g.Sym n) = refl
gcon_starts g.Colon = refl

literal_starts : (x : LiteralTree) → begins starts_aexp (literal_token x ∷ []) ≡ true
literal_starts (l.Integer n) = refl
literal_starts (l.Char n) = refl
literal_starts (l.Text n) = refl

starts_by : (x y : AExpTree) (ts : Ts) → x ≡ y → spelling_aexp y ≡ ts → begins starts_aexp ts ≡ true →
    begins starts_aexp (spelling_aexp x) ≡ true
starts_by x y ts is e h = ap (λ z. begins starts_aexp (spelling_aexp z)) is ∙ ap (begins starts_aexp) e ∙ h

starts_layer : (x : AExpTrees) → begins starts_aexp (spelling_aexp (roll-AExpTree x)) ≡ true
starts_layer (AExpTree-F.Var x) = starts_by _ _ _ (a.rolls-Var x) (var_spelled x) (qvar_starts x)
starts_layer (AExpTree-F.Con x) = starts_by _ _ _ (a.rolls-Con x) (con_spelled x) (gcon_starts x)
starts_layer (AExpTree-F.Literal x) = starts_by _ _ _ (a.rolls-Literal x) (literal_spelled x) (literal_starts x)
starts_layer (AExpTree-F.Parts x xs) = starts_by _ _ _ (a.rolls-Parts x xs) (parts_spelled (x, xs)) refl
starts_layer (AExpTree-F.List x xs) = starts_by _ _ _ (a.rolls-List x xs) (list_spelled (x, xs)) refl
starts_layer (AExpTree-F.LeftSection x op) = starts_by _ _ _ (a.rolls-LeftSection x op) (left_spelled x op) refl
starts_layer (AExpTree-F.RightSection op x) = starts_by _ _ _ (a.rolls-RightSection op x) (right_spelled op x) refl

pub aexp_starts : (x : AExpTree) → begins starts_aexp (spelling_aexp x) ≡ true
aexp_starts x =
    subst (λ y. begins starts_aexp (spelling_aexp y) ≡ true) (roll-out-AExpTree x) (starts_layer (out-AExpTree x))
