-- Lambdas, `let`, `if`, `case` and applications from their parts.
use Rattle.std.proofs.Common.{◌≡◌, ◌+◌, Bool, true, false, List, [], ◌∷◌, ◌++◌, refl, sym, ap, ◌∙◌}
use Rattle.std.proofs.Common.{append_assoc, arith}
use Rattle.std.specs.Prelude.{map, max, ◌&&◌}
use Rattle.std.proofs.lemmas.List.Folds.{flat_map-map}
use Rattle.std.proofs.lemmas.Simd.{map-map}
use Rattle.hs_forms.specs.Limits.{deepest, all_of}
use Rattle.hs_tokens.specs.declared.terminal.Terminal.TheVariants as t
use Rattle.hs_tokens.specs.declared.word.Word.TheVariants as w
use Rattle.hs_trees.specs.Patterns.{APats, spelling_apats, are_apats, depth_of_apat}
use Rattle.hs_trees.specs.Patterns.{depth_of_lpat, depth_of_pat}
use Rattle.hs_trees.specs.declared.patterns.APatTree.{APatTree}
use Rattle.hs_trees.specs.declared.patterns.LPatTree.{LPatTree-F}
use Rattle.hs_trees.specs.declared.patterns.LPatTree.TheVariants as lp
use Rattle.hs_trees.specs.declared.patterns.PatTree.{fold-roll-PatTree}
use Rattle.hs_trees.specs.declared.patterns.LPatTree.{fold-roll-LPatTree}
use Rattle.hs_trees.proofs.PatternLayerLemmas.{pat_deep, lpat_deep}
use Rattle.hs_trees.proofs.PatternChainLemmas.{make_pat}
use Rattle.hs_modules.specs.Extents.{Extent, depth_of}
use Rattle.hs_modules.specs.PartExtents.{extent_of_apat, extent_of_lpat, extent_of_pat, apat_extent, lpat_extent}
use Rattle.hs_modules.specs.PartExtents.{op_lpat_extent, pat_extent}
use Rattle.hs_modules.specs.ExpressionExtents.{extent_algebra, extent_of_aexp}
use Rattle.hs_modules.specs.Tokens.{token_algebra, spelling_exp, spelling_aexp, spelling_operand}
use Rattle.hs_modules.specs.Tokens.{spelling_decl_block}
use Rattle.hs_modules.specs.Tokens.{spelling_alt_block}
use Rattle.hs_modules.specs.Formed.{Facts, fact_algebra, opened, closed, good_of, facts_of_exp, facts_of_aexp}
use Rattle.hs_modules.specs.Formed.{facts_of_operand}
use Rattle.hs_modules.specs.Formed.{facts_of_decl_block}
use Rattle.hs_modules.specs.declared.expressions.OperandTree.{OperandTree, OperandTree-F}
use Rattle.hs_modules.specs.declared.expressions.OperandTree.TheVariants as d
use Rattle.hs_modules.specs.declared.expressions.AExpTree.{AExpTree}
use Rattle.hs_modules.specs.declared.expressions.ExpTree.{ExpTree}
use Rattle.hs_modules.specs.declared.expressions.LambdaTree.{roll-LambdaTree}
use Rattle.hs_modules.specs.declared.expressions.LetTree.{roll-LetTree}
use Rattle.hs_modules.specs.declared.expressions.IfTree.{roll-IfTree}
use Rattle.hs_modules.specs.declared.expressions.CaseTree.{roll-CaseTree}
use Rattle.hs_modules.specs.declared.expressions.DeclBlock.{DeclBlock}
use Rattle.hs_modules.specs.declared.expressions.AltBlock.{AltBlock}
use Rattle.hs_modules.proofs.FoldingLemmas.{operand_folded, lambda_folded, let_folded, if_folded, case_folded}
use Rattle.hs_modules.proofs.PartDepthLemmas.{pat_depth_is}
use Rattle.hs_expression_forms.specs.Expressions.{is_aexp, is_exp, depth_of_aexp, depth_of_exp, depth_of_operand}
use Rattle.hs_expression_forms.specs.Expressions.{applies, lambdas, lets, ifs, cases}

-- the depth of the extent of an `apat`
pub apat_depth_is : (x : APatTree) → (extent_of_apat x).depth ≡ depth_of_apat x
apat_depth_is x =
    let l : extent_of_lpat (lp.APat x) ≡ lpat_extent (LPatTree-F.APat (extent_of_apat x)) =
    ap extent_of_lpat (sym (lp.rolls-APat x))
    ∙ fold-roll-LPatTree Extent Extent Extent Extent apat_extent lpat_extent op_lpat_extent pat_extent
    (LPatTree-F.APat x) in
    let p : extent_of_pat (make_pat (lp.APat x) []) ≡ pat_extent (record {
      first = extent_of_lpat (lp.APat x);
      rest = [];
    }) =
    fold-roll-PatTree Extent Extent Extent Extent apat_extent lpat_extent op_lpat_extent pat_extent
    (record { first = lp.APat x; rest = [] }) in
    let e : (extent_of_pat (make_pat (lp.APat x) [])).depth ≡ max (extent_of_lpat (lp.APat x)).depth 0 + 0 =
    ap depth_of p in
    let e' : (extent_of_lpat (lp.APat x)).depth ≡ (extent_of_apat x).depth = ap depth_of l in
    let f : depth_of_pat (make_pat (lp.APat x) []) ≡ max (depth_of_lpat (lp.APat x)) 0 + 0 =
    pat_deep (record { first = lp.APat x; rest = [] }) in
    let f' : depth_of_lpat (lp.APat x) ≡ depth_of_apat x =
    ap depth_of_lpat (sym (lp.rolls-APat x)) ∙ lpat_deep (LPatTree-F.APat x) in
    omega (arith, e, e', f, f', pat_depth_is (make_pat (lp.APat x) []))

pub deepest_apats : (xs : List APatTree) →
    deepest (map depth_of (map extent_of_apat xs)) ≡ deepest (map depth_of_apat xs)
deepest_apats [] = refl
deepest_apats (x ∷ xs) = λ i. max (apat_depth_is x i) (deepest_apats xs i)

-- the depths of the extents of parts
pub deepest_of : {X : Type 0} (f : X → Extent) (xs : List X) →
    deepest (map depth_of (map f xs)) ≡ deepest (map (λ x. (f x).depth) xs)
deepest_of f xs = ap deepest (map-map depth_of f xs)

pub all_good_of : {X : Type 0} (f : X → Facts) (xs : List X) →
    all_of (map good_of (map f xs)) ≡ all_of (map (λ x. (f x).good) xs)
all_good_of f xs = ap all_of (map-map good_of f xs)

abbrev pub Lambda : Type 0
Lambda = APats × ExpTree

abbrev pub make_lambda : Lambda → OperandTree
make_lambda p = d.Lambda (roll-LambdaTree (record { first = p.0.0; rest = p.0.1; body = p.1 }))

pub lambda_spelled : (p : Lambda) → spelling_operand (make_lambda p) ≡ lambdas.tokens p
unfolding token_algebra
lambda_spelled p =
    let l = roll-LambdaTree (record { first = p.0.0; rest = p.0.1; body = p.1 }) in
    ap spelling_operand (sym (d.rolls-Lambda l)) ∙ operand_folded token_algebra (OperandTree-F.Lambda l)
    ∙ lambda_folded token_algebra (record { first = p.0.0; rest = p.0.1; body = p.1 })
    ∙ ap (λ ts. t.Backslash ∷ ts) (sym (append_assoc (spelling_apats p.0) (t.Arrow ∷ []) (spelling_exp p.1)))

pub lambda_facts : (p : Lambda) → facts_of_operand (make_lambda p) ≡ opened (are_apats p.0) (facts_of_exp p.1)
unfolding fact_algebra
lambda_facts p =
    let l = roll-LambdaTree (record { first = p.0.0; rest = p.0.1; body = p.1 }) in
    ap facts_of_operand (sym (d.rolls-Lambda l)) ∙ operand_folded fact_algebra (OperandTree-F.Lambda l)
    ∙ lambda_folded fact_algebra (record { first = p.0.0; rest = p.0.1; body = p.1 })

pub lambda_deep : (p : Lambda) → depth_of_operand (make_lambda p) ≡ lambdas.deep p + 1
unfolding extent_algebra
lambda_deep p =
    let l = roll-LambdaTree (record { first = p.0.0; rest = p.0.1; body = p.1 }) in
    ap (λ x. depth_of_operand x) (sym (d.rolls-Lambda l))
    ∙ ap depth_of (operand_folded extent_algebra (OperandTree-F.Lambda l))
    ∙ ap depth_of (lambda_folded extent_algebra (record { first = p.0.0; rest = p.0.1; body = p.1 }))
    ∙ ap (λ n. max (max n (deepest (map depth_of (map extent_of_apat p.0.1)))) (depth_of_exp p.1) + 1)
    (apat_depth_is p.0.0)
    ∙ ap (λ n. max (max (depth_of_apat p.0.0) n) (depth_of_exp p.1) + 1) (deepest_apats p.0.1)

abbrev pub Let : Type 0
Let = DeclBlock × ExpTree

abbrev pub make_let : Let → OperandTree
make_let p = d.Let (roll-LetTree (record { decls = p.0; body = p.1 }))

pub let_spelled : (p : Let) → spelling_operand (make_let p) ≡ lets.tokens p
unfolding token_algebra
let_spelled p =
    let l = roll-LetTree (record { decls = p.0; body = p.1 }) in
    ap spelling_operand (sym (d.rolls-Let l)) ∙ operand_folded token_algebra (OperandTree-F.Let l)
    ∙ let_folded token_algebra (record { decls = p.0; body = p.1 })
    ∙ ap (λ ts. t.Word w.Let ∷ ts)
    (sym (append_assoc (spelling_decl_block p.0) (t.Word w.In ∷ []) (spelling_exp p.1)))

pub let_facts : (p : Let) → facts_of_operand (make_let p) ≡ opened (facts_of_decl_block p.0).good (facts_of_exp p.1)
unfolding fact_algebra
let_facts p =
    let l = roll-LetTree (record { decls = p.0; body = p.1 }) in
    ap facts_of_operand (sym (d.rolls-Let l)) ∙ operand_folded fact_algebra (OperandTree-F.Let l)
    ∙ let_folded fact_algebra (record { decls = p.0; body = p.1 })

pub let_deep : (p : Let) → depth_of_operand (make_let p) ≡ lets.deep p + 1
unfolding extent_algebra
let_deep p =
    let l = roll-LetTree (record { decls = p.0; body = p.1 }) in
    ap (λ x. depth_of_operand x) (sym (d.rolls-Let l))
    ∙ ap depth_of (operand_folded extent_algebra (OperandTree-F.Let l))
    ∙ ap depth_of (let_folded extent_algebra (record { decls = p.0; body = p.1 }))

abbrev pub If : Type 0
If = ExpTree × (ExpTree × ExpTree)

abbrev pub make_if : If → OperandTree
make_if p = d.If (roll-IfTree (record { test = p.0; then_part = p.1.0; else_part = p.1.1 }))

pub if_spelled : (p : If) → spelling_operand (make_if p) ≡ ifs.tokens p
unfolding token_algebra
if_spelled p =
    let l = roll-IfTree (record { test = p.0; then_part = p.1.0; else_part = p.1.1 }) in
    ap spelling_operand (sym (d.rolls-If l)) ∙ operand_folded token_algebra (OperandTree-F.If l)
    ∙ if_folded token_algebra (record { test = p.0; then_part = p.1.0; else_part = p.1.1 })
    ∙ ap (λ ts. t.Word w.If ∷ (spelling_exp p.0 ++ t.Word w.Then ∷ ts))
    (sym (append_assoc (spelling_exp p.1.0) (t.Word w.Else ∷ []) (spelling_exp p.1.1)))
    ∙ ap (λ ts. t.Word w.If ∷ ts) (sym (append_assoc (spelling_exp p.0) (t.Word w.Then ∷ [])
    ((spelling_exp p.1.0 ++ t.Word w.Else ∷ []) ++ spelling_exp p.1.1)))

-- three tests in either order
and_regroup : (a b c : Bool) → (a && b) && c ≡ a && (b && c)
and_regroup true b c = refl
and_regroup false b c = refl

pub if_facts : (p : If) →
    facts_of_operand (make_if p) ≡ opened (is_exp p.0 && is_exp p.1.0) (facts_of_exp p.1.1)
unfolding fact_algebra
if_facts p =
    let l = roll-IfTree (record { test = p.0; then_part = p.1.0; else_part = p.1.1 }) in
    ap facts_of_operand (sym (d.rolls-If l)) ∙ operand_folded fact_algebra (OperandTree-F.If l)
    ∙ if_folded fact_algebra (record { test = p.0; then_part = p.1.0; else_part = p.1.1 })

pub if_formed : (p : If) → (facts_of_operand (make_if p)).good ≡ ifs.formed p
if_formed p = ap good_of (if_facts p) ∙ and_regroup (is_exp p.0) (is_exp p.1.0) (is_exp p.1.1)

pub if_deep : (p : If) → depth_of_operand (make_if p) ≡ ifs.deep p + 1
unfolding extent_algebra
if_deep p =
    let l = roll-IfTree (record { test = p.0; then_part = p.1.0; else_part = p.1.1 }) in
    let e : depth_of_operand (make_if p) ≡ max (max (depth_of_exp p.0) (depth_of_exp p.1.0)) (depth_of_exp p.1.1) + 1 =
    ap (λ x. depth_of_operand x) (sym (d.rolls-If l))
    ∙ ap depth_of (operand_folded extent_algebra (OperandTree-F.If l))
    ∙ ap depth_of (if_folded extent_algebra (record { test = p.0; then_part = p.1.0; else_part = p.1.1 })) in
    omega (arith, e)

abbrev pub Case : Type 0
Case = ExpTree × AltBlock

abbrev pub make_case : Case → OperandTree
make_case p = d.Case (roll-CaseTree (record { scrutinee = p.0; alts = p.1 }))

pub case_spelled : (p : Case) → spelling_operand (make_case p) ≡ cases.tokens p
unfolding token_algebra
case_spelled p =
    let l = roll-CaseTree (record { scrutinee = p.0; alts = p.1 }) in
    ap spelling_operand (sym (d.rolls-Case l)) ∙ operand_folded token_algebra (OperandTree-F.Case l)
    ∙ case_folded token_algebra (record { scrutinee = p.0; alts = p.1 })
    ∙ ap (λ ts. t.Word w.Case ∷ ts)
    (sym (append_assoc (spelling_exp p.0) (t.Word w.Of ∷ []) (spelling_alt_block p.1)))

pub case_facts : (p : Case) → facts_of_operand (make_case p) ≡ closed (cases.formed p)
unfolding fact_algebra
case_facts p =
    let l = roll-CaseTree (record { scrutinee = p.0; alts = p.1 }) in
    ap facts_of_operand (sym (d.rolls-Case l)) ∙ operand_folded fact_algebra (OperandTree-F.Case l)
    ∙ case_folded fact_algebra (record { scrutinee = p.0; alts = p.1 })

pub case_deep : (p : Case) → depth_of_operand (make_case p) ≡ cases.deep p + 1
unfolding extent_algebra
case_deep p =
    let l = roll-CaseTree (record { scrutinee = p.0; alts = p.1 }) in
    ap (λ x. depth_of_operand x) (sym (d.rolls-Case l))
    ∙ ap depth_of (operand_folded extent_algebra (OperandTree-F.Case l))
    ∙ ap depth_of (case_folded extent_algebra (record { scrutinee = p.0; alts = p.1 }))

abbrev pub Apply : Type 0
Apply = AExpTree × List AExpTree

abbrev pub make_apply : Apply → OperandTree
make_apply p = d.Apply p.0 p.1

pub apply_spelled : (p : Apply) → spelling_operand (make_apply p) ≡ applies.tokens p
unfolding token_algebra
apply_spelled p =
    ap spelling_operand (sym (d.rolls-Apply p.0 p.1)) ∙ operand_folded token_algebra (OperandTree-F.Apply p.0 p.1)
    ∙ ap (λ ts. spelling_aexp p.0 ++ ts) (flat_map-map (λ x. x) spelling_aexp p.1)

pub apply_facts : (p : Apply) → facts_of_operand (make_apply p) ≡ closed (applies.formed p)
unfolding fact_algebra
apply_facts p =
    ap facts_of_operand (sym (d.rolls-Apply p.0 p.1)) ∙ operand_folded fact_algebra (OperandTree-F.Apply p.0 p.1)
    ∙ ap (λ b. closed (is_aexp p.0 && b)) (all_good_of facts_of_aexp p.1)

pub apply_deep : (p : Apply) → depth_of_operand (make_apply p) ≡ applies.deep p
unfolding extent_algebra
apply_deep p =
    ap (λ x. depth_of_operand x) (sym (d.rolls-Apply p.0 p.1))
    ∙ ap depth_of (operand_folded extent_algebra (OperandTree-F.Apply p.0 p.1))
    ∙ ap (λ n. max (depth_of_aexp p.0) n) (deepest_of extent_of_aexp p.1)
