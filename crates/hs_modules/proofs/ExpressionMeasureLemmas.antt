-- What the measures of expressions and declarations are made of.
use Rattle.std.proofs.Common.{◌≡◌, ◌+◌, List, ap, sym, ◌∙◌}
use Rattle.std.specs.Prelude.{map, min, sum, Option}
use Rattle.std.proofs.lemmas.Simd.{map-map}
use Rattle.bp_base.specs.Texts.{Text}
use Rattle.hs_modules.specs.Extents as e
use Rattle.hs_modules.specs.Measures.{most, nothing, leaf, beside, node, deeper, all_measured}
use Rattle.hs_modules.proofs.MeasuringLemmas.{given, nothing_is, leaf_is, beside_is, node_is, deeper_is, all_is}
use Rattle.hs_modules.proofs.MeasuringLemmas.{from_layer, deeper_min}
use Rattle.hs_modules.specs.Measured.{measure_of_type, measure_of_apat, measure_of_pat, measure_of_fun_lhs}
use Rattle.hs_modules.specs.Measured.{measure_of_aexp, measure_of_alt_body, measure_of_alt_slot, measure_of_decl_slot}
use Rattle.hs_modules.specs.Measured.{measure_of_decl, measure_of_exp, measure_of_guard, measure_of_locals}
use Rattle.hs_modules.specs.Measured.{measure_of_operand, measure_of_rhs_body, measure_of_alt_block, measure_of_alt}
use Rattle.hs_modules.specs.Measured.{measure_of_case, measure_of_decl_block, measure_of_gd, measure_of_gda}
use Rattle.hs_modules.specs.Measured.{measure_of_if, measure_of_infix, measure_of_lambda, measure_of_let}
use Rattle.hs_modules.specs.Measured.{measure_of_link, measure_of_rhs, measure_of_signed}
use Rattle.hs_modules.specs.PartExtents.{extent_of_type, extent_of_apat, extent_of_pat, extent_of_fun_lhs}
use Rattle.hs_modules.specs.ExpressionExtents.{extent_algebra, sign, operators_of_signed, operators_of_link}
use Rattle.hs_modules.specs.ExpressionExtents.{extent_of_aexp, extent_of_alt_body, extent_of_alt_slot}
use Rattle.hs_modules.specs.ExpressionExtents.{extent_of_decl_slot, extent_of_decl, extent_of_exp, extent_of_guard}
use Rattle.hs_modules.specs.ExpressionExtents.{extent_of_locals, extent_of_operand, extent_of_rhs_body}
use Rattle.hs_modules.specs.ExpressionExtents.{extent_of_alt_block, extent_of_alt, extent_of_case, extent_of_decl_block}
use Rattle.hs_modules.specs.ExpressionExtents.{extent_of_gd, extent_of_gda, extent_of_if, extent_of_infix}
use Rattle.hs_modules.specs.ExpressionExtents.{extent_of_lambda, extent_of_let, extent_of_link, extent_of_rhs}
use Rattle.hs_modules.specs.ExpressionExtents.{extent_of_signed}
use Rattle.hs_modules.specs.Folds.{folded_link}
use Rattle.hs_trees.specs.declared.types.TypeTree.{TypeTree}
use Rattle.hs_trees.specs.declared.patterns.PatTree.{PatTree}
use Rattle.hs_trees.specs.declared.patterns.LiteralTree.{LiteralTree}
use Rattle.hs_trees.specs.declared.patterns.VarTree.{VarTree}
use Rattle.hs_trees.specs.declared.patterns.GConTree.{GConTree}
use Rattle.hs_modules.specs.declared.names.QVarTree.{QVarTree}
use Rattle.hs_modules.specs.declared.names.QOpTree.{QOpTree}
use Rattle.hs_modules.specs.declared.names.OpTree.{OpTree}
use Rattle.hs_modules.specs.declared.declarations.Fixity.{Fixity}
use Rattle.hs_modules.specs.declared.expressions.FunLhsTree.{FunLhsTree}
use Rattle.hs_modules.specs.declared.expressions.AExpTree.{AExpTree, AExpTree-F}
use Rattle.hs_modules.specs.declared.expressions.AExpTree.TheVariants as v_aexp
use Rattle.hs_modules.specs.declared.expressions.AltBody.{AltBody-F}
use Rattle.hs_modules.specs.declared.expressions.AltBody.TheVariants as v_alt_body
use Rattle.hs_modules.specs.declared.expressions.AltSlot.{AltSlot-F}
use Rattle.hs_modules.specs.declared.expressions.AltSlot.TheVariants as v_alt_slot
use Rattle.hs_modules.specs.declared.expressions.DeclSlot.{DeclSlot-F}
use Rattle.hs_modules.specs.declared.expressions.DeclSlot.TheVariants as v_decl_slot
use Rattle.hs_modules.specs.declared.expressions.DeclTree.{DeclTree, DeclTree-F}
use Rattle.hs_modules.specs.declared.expressions.DeclTree.TheVariants as v_decl
use Rattle.hs_modules.specs.declared.expressions.ExpTree.{ExpTree, ExpTree-F}
use Rattle.hs_modules.specs.declared.expressions.ExpTree.TheVariants as v_exp
use Rattle.hs_modules.specs.declared.expressions.GuardTree.{GuardTree-F}
use Rattle.hs_modules.specs.declared.expressions.GuardTree.TheVariants as v_guard
use Rattle.hs_modules.specs.declared.expressions.Locals.{Locals-F}
use Rattle.hs_modules.specs.declared.expressions.Locals.TheVariants as v_locals
use Rattle.hs_modules.specs.declared.expressions.OperandTree.{OperandTree-F}
use Rattle.hs_modules.specs.declared.expressions.OperandTree.TheVariants as v_operand
use Rattle.hs_modules.specs.declared.expressions.RhsBody.{RhsBody-F}
use Rattle.hs_modules.specs.declared.expressions.RhsBody.TheVariants as v_rhs_body
use Rattle.hs_modules.specs.declared.expressions.AltBlock.{AltBlock, out-AltBlock, roll-out-AltBlock}
use Rattle.hs_modules.specs.declared.expressions.AltTree.{AltTree, out-AltTree, roll-out-AltTree}
use Rattle.hs_modules.specs.declared.expressions.CaseTree.{CaseTree, out-CaseTree, roll-out-CaseTree}
use Rattle.hs_modules.specs.declared.expressions.DeclBlock.{DeclBlock, out-DeclBlock, roll-out-DeclBlock}
use Rattle.hs_modules.specs.declared.expressions.GdTree.{GdTree, out-GdTree, roll-out-GdTree}
use Rattle.hs_modules.specs.declared.expressions.GdaTree.{GdaTree, out-GdaTree, roll-out-GdaTree}
use Rattle.hs_modules.specs.declared.expressions.IfTree.{IfTree, out-IfTree, roll-out-IfTree}
use Rattle.hs_modules.specs.declared.expressions.InfixTree.{InfixTree, out-InfixTree, roll-out-InfixTree}
use Rattle.hs_modules.specs.declared.expressions.LambdaTree.{LambdaTree, out-LambdaTree, roll-out-LambdaTree}
use Rattle.hs_modules.specs.declared.expressions.LetTree.{LetTree, out-LetTree, roll-out-LetTree}
use Rattle.hs_modules.specs.declared.expressions.OpOperand.{OpOperand, out-OpOperand, roll-out-OpOperand}
use Rattle.hs_modules.specs.declared.expressions.RhsTree.{RhsTree, out-RhsTree, roll-out-RhsTree}
use Rattle.hs_modules.specs.declared.expressions.SignedOperand.{SignedOperand, out-SignedOperand}
use Rattle.hs_modules.specs.declared.expressions.SignedOperand.{roll-out-SignedOperand}
use Rattle.hs_modules.proofs.FoldingLemmas.{aexp_folded, alt_body_folded, alt_slot_folded, decl_slot_folded}
use Rattle.hs_modules.proofs.FoldingLemmas.{decl_folded, exp_folded, guard_folded, locals_folded, operand_folded}
use Rattle.hs_modules.proofs.FoldingLemmas.{rhs_body_folded, alt_block_folded, alt_folded, case_folded}
use Rattle.hs_modules.proofs.FoldingLemmas.{decl_block_folded, gd_folded, gda_folded, if_folded, infix_folded}
use Rattle.hs_modules.proofs.FoldingLemmas.{lambda_folded, let_folded, link_folded, rhs_folded, signed_folded}

pub aexp-Var : (name : QVarTree) → measure_of_aexp (v_aexp.Var name) ≡ leaf
unfolding measure_of_aexp extent_algebra
aexp-Var name =
    from_layer extent_of_aexp (v_aexp.rolls-Var name) (aexp_folded extent_algebra (AExpTree-F.Var name))
    leaf_is

pub aexp-Con : (con : GConTree) → measure_of_aexp (v_aexp.Con con) ≡ node (leaf)
unfolding measure_of_aexp extent_algebra
aexp-Con con =
    from_layer extent_of_aexp (v_aexp.rolls-Con con) (aexp_folded extent_algebra (AExpTree-F.Con con))
    (node_is e.leaf leaf_is)

pub aexp-Literal : (literal : LiteralTree) → measure_of_aexp (v_aexp.Literal literal) ≡ leaf
unfolding measure_of_aexp extent_algebra
aexp-Literal literal =
    from_layer extent_of_aexp (v_aexp.rolls-Literal literal) (aexp_folded extent_algebra (AExpTree-F.Literal literal))
    leaf_is

pub aexp-Parts : (first : ExpTree) (rest : List ExpTree)
    → measure_of_aexp (v_aexp.Parts first rest) ≡ deeper 1
    (node (beside (measure_of_exp first) (all_measured measure_of_exp rest)))
unfolding measure_of_aexp measure_of_exp extent_algebra
aexp-Parts first rest =
    from_layer extent_of_aexp (v_aexp.rolls-Parts first rest) (aexp_folded extent_algebra (AExpTree-F.Parts first rest))
    (deeper_is 1 (e.node (e.beside (extent_of_exp first) (e.all_beside (map extent_of_exp rest))))
    (node_is (e.beside (extent_of_exp first) (e.all_beside (map extent_of_exp rest)))
    (beside_is (extent_of_exp first) (e.all_beside (map extent_of_exp rest)) (given (extent_of_exp first))
    (all_is extent_of_exp rest))))

pub aexp-List : (first : ExpTree) (rest : List ExpTree)
    → measure_of_aexp (v_aexp.List first rest) ≡ deeper 1
    (node (beside (measure_of_exp first) (all_measured measure_of_exp rest)))
unfolding measure_of_aexp measure_of_exp extent_algebra
aexp-List first rest =
    from_layer extent_of_aexp (v_aexp.rolls-List first rest) (aexp_folded extent_algebra (AExpTree-F.List first rest))
    (deeper_is 1 (e.node (e.beside (extent_of_exp first) (e.all_beside (map extent_of_exp rest))))
    (node_is (e.beside (extent_of_exp first) (e.all_beside (map extent_of_exp rest)))
    (beside_is (extent_of_exp first) (e.all_beside (map extent_of_exp rest)) (given (extent_of_exp first))
    (all_is extent_of_exp rest))))

pub aexp-LeftSection : (chain : InfixTree) (op : QOpTree)
    → measure_of_aexp (v_aexp.LeftSection chain op) ≡ deeper 1 (node (measure_of_infix chain))
unfolding measure_of_aexp measure_of_infix extent_algebra
aexp-LeftSection chain op =
    from_layer extent_of_aexp (v_aexp.rolls-LeftSection chain op)
    (aexp_folded extent_algebra (AExpTree-F.LeftSection chain op))
    (deeper_is 1 (e.node (extent_of_infix chain)) (node_is (extent_of_infix chain) (given (extent_of_infix chain))))

pub aexp-RightSection : (op : QOpTree) (chain : InfixTree)
    → measure_of_aexp (v_aexp.RightSection op chain) ≡ deeper 1 (node (measure_of_infix chain))
unfolding measure_of_aexp measure_of_infix extent_algebra
aexp-RightSection op chain =
    from_layer extent_of_aexp (v_aexp.rolls-RightSection op chain)
    (aexp_folded extent_algebra (AExpTree-F.RightSection op chain))
    (deeper_is 1 (e.node (extent_of_infix chain)) (node_is (extent_of_infix chain) (given (extent_of_infix chain))))

pub alt_body-Arrow : (exp : ExpTree) → measure_of_alt_body (v_alt_body.Arrow exp) ≡ measure_of_exp exp
unfolding measure_of_alt_body measure_of_exp extent_algebra
alt_body-Arrow exp =
    from_layer extent_of_alt_body (v_alt_body.rolls-Arrow exp) (alt_body_folded extent_algebra (AltBody-F.Arrow exp))
    (given (extent_of_exp exp))

pub alt_body-GuardedArrows : (first : GdaTree)
    (rest : List GdaTree)
    → measure_of_alt_body (v_alt_body.GuardedArrows first rest) ≡ beside (measure_of_gda first)
    (all_measured measure_of_gda rest)
unfolding measure_of_alt_body measure_of_gda extent_algebra
alt_body-GuardedArrows first rest =
    from_layer extent_of_alt_body (v_alt_body.rolls-GuardedArrows first rest)
    (alt_body_folded extent_algebra (AltBody-F.GuardedArrows first rest))
    (beside_is (extent_of_gda first) (e.all_beside (map extent_of_gda rest)) (given (extent_of_gda first))
    (all_is extent_of_gda rest))

pub alt_slot-NoAlt : measure_of_alt_slot v_alt_slot.NoAlt ≡ nothing
unfolding measure_of_alt_slot extent_algebra
alt_slot-NoAlt =
    from_layer extent_of_alt_slot v_alt_slot.rolls-NoAlt (alt_slot_folded extent_algebra AltSlot-F.NoAlt)
    nothing_is

pub alt_slot-Alt : (alt : AltTree) → measure_of_alt_slot (v_alt_slot.Alt alt) ≡ measure_of_alt alt
unfolding measure_of_alt measure_of_alt_slot extent_algebra
alt_slot-Alt alt =
    from_layer extent_of_alt_slot (v_alt_slot.rolls-Alt alt) (alt_slot_folded extent_algebra (AltSlot-F.Alt alt))
    (given (extent_of_alt alt))

pub decl_slot-NoDecl : measure_of_decl_slot v_decl_slot.NoDecl ≡ nothing
unfolding measure_of_decl_slot extent_algebra
decl_slot-NoDecl =
    from_layer extent_of_decl_slot v_decl_slot.rolls-NoDecl (decl_slot_folded extent_algebra DeclSlot-F.NoDecl)
    nothing_is

pub decl_slot-Decl : (decl : DeclTree) → measure_of_decl_slot (v_decl_slot.Decl decl) ≡ measure_of_decl decl
unfolding measure_of_decl measure_of_decl_slot extent_algebra
decl_slot-Decl decl =
    from_layer extent_of_decl_slot (v_decl_slot.rolls-Decl decl)
    (decl_slot_folded extent_algebra (DeclSlot-F.Decl decl))
    (given (extent_of_decl decl))

pub decl-Signature : (first : VarTree) (rest : List VarTree) (ty : TypeTree)
    → measure_of_decl (v_decl.Signature first rest ty) ≡ node (measure_of_type ty)
unfolding measure_of_decl measure_of_type extent_algebra
decl-Signature first rest ty =
    from_layer extent_of_decl (v_decl.rolls-Signature first rest ty)
    (decl_folded extent_algebra (DeclTree-F.Signature first rest ty))
    (node_is (extent_of_type ty) (given (extent_of_type ty)))

pub decl-Fixity : (word : Fixity) (level : Option Text) (first : OpTree) (rest : List OpTree)
    → measure_of_decl (v_decl.Fixity word level first rest) ≡ leaf
unfolding measure_of_decl extent_algebra
decl-Fixity word level first rest =
    from_layer extent_of_decl (v_decl.rolls-Fixity word level first rest)
    (decl_folded extent_algebra (DeclTree-F.Fixity word level first rest))
    leaf_is

pub decl-Function : (left : FunLhsTree) (right : RhsTree)
    → measure_of_decl (v_decl.Function left right) ≡ node (beside (measure_of_fun_lhs left) (measure_of_rhs right))
unfolding measure_of_decl measure_of_fun_lhs measure_of_rhs extent_algebra
decl-Function left right =
    from_layer extent_of_decl (v_decl.rolls-Function left right)
    (decl_folded extent_algebra (DeclTree-F.Function left right))
    (node_is (e.beside (extent_of_fun_lhs left) (extent_of_rhs right))
    (beside_is (extent_of_fun_lhs left) (extent_of_rhs right) (given (extent_of_fun_lhs left))
    (given (extent_of_rhs right))))

pub decl-Pattern : (left : PatTree) (right : RhsTree)
    → measure_of_decl (v_decl.Pattern left right) ≡ node (beside (measure_of_pat left) (measure_of_rhs right))
unfolding measure_of_decl measure_of_pat measure_of_rhs extent_algebra
decl-Pattern left right =
    from_layer extent_of_decl (v_decl.rolls-Pattern left right)
    (decl_folded extent_algebra (DeclTree-F.Pattern left right))
    (node_is (e.beside (extent_of_pat left) (extent_of_rhs right))
    (beside_is (extent_of_pat left) (extent_of_rhs right) (given (extent_of_pat left))
    (given (extent_of_rhs right))))

pub exp-Infix : (chain : InfixTree) → measure_of_exp (v_exp.Infix chain) ≡ node (measure_of_infix chain)
unfolding measure_of_exp measure_of_infix extent_algebra
exp-Infix chain =
    from_layer extent_of_exp (v_exp.rolls-Infix chain) (exp_folded extent_algebra (ExpTree-F.Infix chain))
    (node_is (extent_of_infix chain) (given (extent_of_infix chain)))

pub exp-Annotated : (chain : InfixTree) (ty : TypeTree)
    → measure_of_exp (v_exp.Annotated chain ty) ≡ deeper 1 (node (beside (measure_of_infix chain) (measure_of_type ty)))
unfolding measure_of_exp measure_of_infix measure_of_type extent_algebra
exp-Annotated chain ty =
    from_layer extent_of_exp (v_exp.rolls-Annotated chain ty) (exp_folded extent_algebra (ExpTree-F.Annotated chain ty))
    (deeper_is 1 (e.node (e.beside (extent_of_infix chain) (extent_of_type ty)))
    (node_is (e.beside (extent_of_infix chain) (extent_of_type ty))
    (beside_is (extent_of_infix chain) (extent_of_type ty) (given (extent_of_infix chain))
    (given (extent_of_type ty)))))

pub guard-Bind : (pat : PatTree) (chain : InfixTree)
    → measure_of_guard (v_guard.Bind pat chain) ≡ node (beside (measure_of_pat pat) (measure_of_infix chain))
unfolding measure_of_guard measure_of_infix measure_of_pat extent_algebra
guard-Bind pat chain =
    from_layer extent_of_guard (v_guard.rolls-Bind pat chain) (guard_folded extent_algebra (GuardTree-F.Bind pat chain))
    (node_is (e.beside (extent_of_pat pat) (extent_of_infix chain))
    (beside_is (extent_of_pat pat) (extent_of_infix chain) (given (extent_of_pat pat))
    (given (extent_of_infix chain))))

pub guard-Test : (chain : InfixTree) → measure_of_guard (v_guard.Test chain) ≡ node (measure_of_infix chain)
unfolding measure_of_guard measure_of_infix extent_algebra
guard-Test chain =
    from_layer extent_of_guard (v_guard.rolls-Test chain) (guard_folded extent_algebra (GuardTree-F.Test chain))
    (node_is (extent_of_infix chain) (given (extent_of_infix chain)))

pub locals-Absent : measure_of_locals v_locals.Absent ≡ nothing
unfolding measure_of_locals extent_algebra
locals-Absent =
    from_layer extent_of_locals v_locals.rolls-Absent (locals_folded extent_algebra Locals-F.Absent)
    nothing_is

pub locals-Where : (block : DeclBlock) → measure_of_locals (v_locals.Where block) ≡ deeper 1
    (measure_of_decl_block block)
unfolding measure_of_decl_block measure_of_locals extent_algebra
locals-Where block =
    from_layer extent_of_locals (v_locals.rolls-Where block) (locals_folded extent_algebra (Locals-F.Where block))
    (deeper_is 1 (extent_of_decl_block block) (given (extent_of_decl_block block)))

pub operand-Lambda : (part : LambdaTree) → measure_of_operand (v_operand.Lambda part) ≡ node (measure_of_lambda part)
unfolding measure_of_lambda measure_of_operand extent_algebra
operand-Lambda part =
    from_layer extent_of_operand (v_operand.rolls-Lambda part)
    (operand_folded extent_algebra (OperandTree-F.Lambda part))
    (node_is (extent_of_lambda part) (given (extent_of_lambda part)))

pub operand-Let : (part : LetTree) → measure_of_operand (v_operand.Let part) ≡ node (measure_of_let part)
unfolding measure_of_let measure_of_operand extent_algebra
operand-Let part =
    from_layer extent_of_operand (v_operand.rolls-Let part) (operand_folded extent_algebra (OperandTree-F.Let part))
    (node_is (extent_of_let part) (given (extent_of_let part)))

pub operand-If : (part : IfTree) → measure_of_operand (v_operand.If part) ≡ node (measure_of_if part)
unfolding measure_of_if measure_of_operand extent_algebra
operand-If part =
    from_layer extent_of_operand (v_operand.rolls-If part) (operand_folded extent_algebra (OperandTree-F.If part))
    (node_is (extent_of_if part) (given (extent_of_if part)))

pub operand-Case : (part : CaseTree) → measure_of_operand (v_operand.Case part) ≡ node (measure_of_case part)
unfolding measure_of_case measure_of_operand extent_algebra
operand-Case part =
    from_layer extent_of_operand (v_operand.rolls-Case part) (operand_folded extent_algebra (OperandTree-F.Case part))
    (node_is (extent_of_case part) (given (extent_of_case part)))

pub operand-Apply : (first : AExpTree)
    (rest : List AExpTree)
    → measure_of_operand (v_operand.Apply first rest) ≡ node
    (beside (measure_of_aexp first) (all_measured measure_of_aexp rest))
unfolding measure_of_aexp measure_of_operand extent_algebra
operand-Apply first rest =
    from_layer extent_of_operand (v_operand.rolls-Apply first rest)
    (operand_folded extent_algebra (OperandTree-F.Apply first rest))
    (node_is (e.beside (extent_of_aexp first) (e.all_beside (map extent_of_aexp rest)))
    (beside_is (extent_of_aexp first) (e.all_beside (map extent_of_aexp rest)) (given (extent_of_aexp first))
    (all_is extent_of_aexp rest)))

pub rhs_body-Equals : (exp : ExpTree) → measure_of_rhs_body (v_rhs_body.Equals exp) ≡ measure_of_exp exp
unfolding measure_of_exp measure_of_rhs_body extent_algebra
rhs_body-Equals exp =
    from_layer extent_of_rhs_body (v_rhs_body.rolls-Equals exp) (rhs_body_folded extent_algebra (RhsBody-F.Equals exp))
    (given (extent_of_exp exp))

pub rhs_body-GuardedEquals : (first : GdTree)
    (rest : List GdTree)
    → measure_of_rhs_body (v_rhs_body.GuardedEquals first rest) ≡ beside (measure_of_gd first)
    (all_measured measure_of_gd rest)
unfolding measure_of_gd measure_of_rhs_body extent_algebra
rhs_body-GuardedEquals first rest =
    from_layer extent_of_rhs_body (v_rhs_body.rolls-GuardedEquals first rest)
    (rhs_body_folded extent_algebra (RhsBody-F.GuardedEquals first rest))
    (beside_is (extent_of_gd first) (e.all_beside (map extent_of_gd rest)) (given (extent_of_gd first))
    (all_is extent_of_gd rest))

pub alt_block_measured : (t : AltBlock) → measure_of_alt_block t ≡ beside (measure_of_alt_slot (out-AltBlock t).first)
    (all_measured measure_of_alt_slot (out-AltBlock t).rest)
unfolding measure_of_alt_block measure_of_alt_slot extent_algebra
alt_block_measured t =
    from_layer extent_of_alt_block (roll-out-AltBlock t) (alt_block_folded extent_algebra (out-AltBlock t))
    (beside_is (extent_of_alt_slot (out-AltBlock t).first) (e.all_beside (map extent_of_alt_slot (out-AltBlock t).rest))
    (given (extent_of_alt_slot (out-AltBlock t).first)) (all_is extent_of_alt_slot (out-AltBlock t).rest))

pub alt_measured : (t : AltTree) → measure_of_alt t ≡ node
    (beside (beside (measure_of_pat (out-AltTree t).pat) (measure_of_alt_body (out-AltTree t).body))
    (measure_of_locals (out-AltTree t).locals))
unfolding measure_of_alt measure_of_alt_body measure_of_locals measure_of_pat extent_algebra
alt_measured t =
    from_layer extent_of_alt (roll-out-AltTree t) (alt_folded extent_algebra (out-AltTree t))
    (node_is (e.beside (e.beside (extent_of_pat (out-AltTree t).pat) (extent_of_alt_body (out-AltTree t).body))
    (extent_of_locals (out-AltTree t).locals))
    (beside_is (e.beside (extent_of_pat (out-AltTree t).pat) (extent_of_alt_body (out-AltTree t).body))
    (extent_of_locals (out-AltTree t).locals) (beside_is (extent_of_pat (out-AltTree t).pat)
    (extent_of_alt_body (out-AltTree t).body) (given (extent_of_pat (out-AltTree t).pat))
    (given (extent_of_alt_body (out-AltTree t).body))) (given (extent_of_locals (out-AltTree t).locals))))

pub case_measured : (t : CaseTree) → measure_of_case t ≡ deeper 1
    (node (beside (measure_of_exp (out-CaseTree t).scrutinee) (measure_of_alt_block (out-CaseTree t).alts)))
unfolding measure_of_alt_block measure_of_case measure_of_exp extent_algebra
case_measured t =
    from_layer extent_of_case (roll-out-CaseTree t) (case_folded extent_algebra (out-CaseTree t))
    (deeper_is 1 (e.node (e.beside (extent_of_exp (out-CaseTree t).scrutinee)
    (extent_of_alt_block (out-CaseTree t).alts)))
    (node_is (e.beside (extent_of_exp (out-CaseTree t).scrutinee) (extent_of_alt_block (out-CaseTree t).alts))
    (beside_is (extent_of_exp (out-CaseTree t).scrutinee) (extent_of_alt_block (out-CaseTree t).alts)
    (given (extent_of_exp (out-CaseTree t).scrutinee)) (given (extent_of_alt_block (out-CaseTree t).alts)))))

pub decl_block_measured : (t : DeclBlock) → measure_of_decl_block t ≡ beside
    (measure_of_decl_slot (out-DeclBlock t).first) (all_measured measure_of_decl_slot (out-DeclBlock t).rest)
unfolding measure_of_decl_block measure_of_decl_slot extent_algebra
decl_block_measured t =
    from_layer extent_of_decl_block (roll-out-DeclBlock t) (decl_block_folded extent_algebra (out-DeclBlock t))
    (beside_is (extent_of_decl_slot (out-DeclBlock t).first)
    (e.all_beside (map extent_of_decl_slot (out-DeclBlock t).rest))
    (given (extent_of_decl_slot (out-DeclBlock t).first)) (all_is extent_of_decl_slot (out-DeclBlock t).rest))

pub gd_measured : (t : GdTree) → measure_of_gd t ≡ node
    (beside (beside (measure_of_guard (out-GdTree t).first) (all_measured measure_of_guard (out-GdTree t).rest))
    (measure_of_exp (out-GdTree t).exp))
unfolding measure_of_exp measure_of_gd measure_of_guard extent_algebra
gd_measured t =
    from_layer extent_of_gd (roll-out-GdTree t) (gd_folded extent_algebra (out-GdTree t))
    (node_is (e.beside (e.beside (extent_of_guard (out-GdTree t).first)
    (e.all_beside (map extent_of_guard (out-GdTree t).rest))) (extent_of_exp (out-GdTree t).exp))
    (beside_is (e.beside (extent_of_guard (out-GdTree t).first)
    (e.all_beside (map extent_of_guard (out-GdTree t).rest))) (extent_of_exp (out-GdTree t).exp)
    (beside_is (extent_of_guard (out-GdTree t).first) (e.all_beside (map extent_of_guard (out-GdTree t).rest))
    (given (extent_of_guard (out-GdTree t).first)) (all_is extent_of_guard (out-GdTree t).rest))
    (given (extent_of_exp (out-GdTree t).exp))))

pub gda_measured : (t : GdaTree) → measure_of_gda t ≡ node
    (beside (beside (measure_of_guard (out-GdaTree t).first) (all_measured measure_of_guard (out-GdaTree t).rest))
    (measure_of_exp (out-GdaTree t).exp))
unfolding measure_of_exp measure_of_gda measure_of_guard extent_algebra
gda_measured t =
    from_layer extent_of_gda (roll-out-GdaTree t) (gda_folded extent_algebra (out-GdaTree t))
    (node_is (e.beside (e.beside (extent_of_guard (out-GdaTree t).first)
    (e.all_beside (map extent_of_guard (out-GdaTree t).rest))) (extent_of_exp (out-GdaTree t).exp))
    (beside_is (e.beside (extent_of_guard (out-GdaTree t).first)
    (e.all_beside (map extent_of_guard (out-GdaTree t).rest))) (extent_of_exp (out-GdaTree t).exp)
    (beside_is (extent_of_guard (out-GdaTree t).first) (e.all_beside (map extent_of_guard (out-GdaTree t).rest))
    (given (extent_of_guard (out-GdaTree t).first)) (all_is extent_of_guard (out-GdaTree t).rest))
    (given (extent_of_exp (out-GdaTree t).exp))))

pub if_measured : (t : IfTree) → measure_of_if t ≡ deeper 1
    (node (beside (beside (measure_of_exp (out-IfTree t).test) (measure_of_exp (out-IfTree t).then_part))
    (measure_of_exp (out-IfTree t).else_part)))
unfolding measure_of_exp measure_of_if extent_algebra
if_measured t =
    from_layer extent_of_if (roll-out-IfTree t) (if_folded extent_algebra (out-IfTree t))
    (deeper_is 1 (e.node (e.beside (e.beside (extent_of_exp (out-IfTree t).test)
    (extent_of_exp (out-IfTree t).then_part)) (extent_of_exp (out-IfTree t).else_part)))
    (node_is (e.beside (e.beside (extent_of_exp (out-IfTree t).test) (extent_of_exp (out-IfTree t).then_part))
    (extent_of_exp (out-IfTree t).else_part)) (beside_is
    (e.beside (extent_of_exp (out-IfTree t).test) (extent_of_exp (out-IfTree t).then_part))
    (extent_of_exp (out-IfTree t).else_part) (beside_is (extent_of_exp (out-IfTree t).test)
    (extent_of_exp (out-IfTree t).then_part) (given (extent_of_exp (out-IfTree t).test))
    (given (extent_of_exp (out-IfTree t).then_part))) (given (extent_of_exp (out-IfTree t).else_part)))))

pub infix_measured : (t : InfixTree) → measure_of_infix t ≡ deeper
    (min (operators_of_signed (out-InfixTree t).first + sum (map operators_of_link (out-InfixTree t).rest)) most)
    (node (beside (measure_of_signed (out-InfixTree t).first) (all_measured measure_of_link (out-InfixTree t).rest)))
unfolding measure_of_infix measure_of_link measure_of_signed extent_algebra
infix_measured t =
    from_layer extent_of_infix (roll-out-InfixTree t) (infix_folded extent_algebra (out-InfixTree t)
    ∙ (λ i. e.deeper (operators_of_signed (out-InfixTree t).first + sum
    (map-map (λ o. o.0) (folded_link extent_algebra) (out-InfixTree t).rest i))
    (e.node (e.beside (extent_of_signed (out-InfixTree t).first)
    (e.all_beside (map-map (λ o. o.1) (folded_link extent_algebra) (out-InfixTree t).rest i))))))
    (deeper_min (operators_of_signed (out-InfixTree t).first + sum (map operators_of_link (out-InfixTree t).rest)) _
    ∙ deeper_is (operators_of_signed (out-InfixTree t).first + sum (map operators_of_link (out-InfixTree t).rest))
    (e.node (e.beside (extent_of_signed (out-InfixTree t).first)
    (e.all_beside (map extent_of_link (out-InfixTree t).rest))))
    (node_is (e.beside (extent_of_signed (out-InfixTree t).first)
    (e.all_beside (map extent_of_link (out-InfixTree t).rest)))
    (beside_is (extent_of_signed (out-InfixTree t).first) (e.all_beside (map extent_of_link (out-InfixTree t).rest))
    (given (extent_of_signed (out-InfixTree t).first)) (all_is extent_of_link (out-InfixTree t).rest))))

pub lambda_measured : (t : LambdaTree) → measure_of_lambda t ≡ deeper 1
    (node (beside (beside (measure_of_apat (out-LambdaTree t).first)
    (all_measured measure_of_apat (out-LambdaTree t).rest)) (measure_of_exp (out-LambdaTree t).body)))
unfolding measure_of_apat measure_of_exp measure_of_lambda extent_algebra
lambda_measured t =
    from_layer extent_of_lambda (roll-out-LambdaTree t) (lambda_folded extent_algebra (out-LambdaTree t))
    (deeper_is 1 (e.node (e.beside (e.beside (extent_of_apat (out-LambdaTree t).first)
    (e.all_beside (map extent_of_apat (out-LambdaTree t).rest))) (extent_of_exp (out-LambdaTree t).body)))
    (node_is (e.beside (e.beside (extent_of_apat (out-LambdaTree t).first)
    (e.all_beside (map extent_of_apat (out-LambdaTree t).rest))) (extent_of_exp (out-LambdaTree t).body))
    (beside_is (e.beside (extent_of_apat (out-LambdaTree t).first)
    (e.all_beside (map extent_of_apat (out-LambdaTree t).rest))) (extent_of_exp (out-LambdaTree t).body)
    (beside_is (extent_of_apat (out-LambdaTree t).first) (e.all_beside (map extent_of_apat (out-LambdaTree t).rest))
    (given (extent_of_apat (out-LambdaTree t).first)) (all_is extent_of_apat (out-LambdaTree t).rest))
    (given (extent_of_exp (out-LambdaTree t).body)))))

pub let_measured : (t : LetTree) → measure_of_let t ≡ deeper 1
    (node (beside (measure_of_decl_block (out-LetTree t).decls) (measure_of_exp (out-LetTree t).body)))
unfolding measure_of_decl_block measure_of_exp measure_of_let extent_algebra
let_measured t =
    from_layer extent_of_let (roll-out-LetTree t) (let_folded extent_algebra (out-LetTree t))
    (deeper_is 1 (e.node (e.beside (extent_of_decl_block (out-LetTree t).decls) (extent_of_exp (out-LetTree t).body)))
    (node_is (e.beside (extent_of_decl_block (out-LetTree t).decls) (extent_of_exp (out-LetTree t).body))
    (beside_is (extent_of_decl_block (out-LetTree t).decls) (extent_of_exp (out-LetTree t).body)
    (given (extent_of_decl_block (out-LetTree t).decls)) (given (extent_of_exp (out-LetTree t).body)))))

pub link_measured : (t : OpOperand) → measure_of_link t ≡ measure_of_signed (out-OpOperand t).operand
unfolding measure_of_link measure_of_signed extent_algebra
link_measured t =
    from_layer extent_of_link (roll-out-OpOperand t) (ap (λ p. p.1) (link_folded extent_algebra (out-OpOperand t)))
    (given (extent_of_signed (out-OpOperand t).operand))

pub rhs_measured : (t : RhsTree) → measure_of_rhs t ≡ node
    (beside (measure_of_rhs_body (out-RhsTree t).body) (measure_of_locals (out-RhsTree t).locals))
unfolding measure_of_locals measure_of_rhs measure_of_rhs_body extent_algebra
rhs_measured t =
    from_layer extent_of_rhs (roll-out-RhsTree t) (rhs_folded extent_algebra (out-RhsTree t))
    (node_is (e.beside (extent_of_rhs_body (out-RhsTree t).body) (extent_of_locals (out-RhsTree t).locals))
    (beside_is (extent_of_rhs_body (out-RhsTree t).body) (extent_of_locals (out-RhsTree t).locals)
    (given (extent_of_rhs_body (out-RhsTree t).body)) (given (extent_of_locals (out-RhsTree t).locals))))

pub signed_measured : (t : SignedOperand) → measure_of_signed t ≡ measure_of_operand (out-SignedOperand t).operand
unfolding measure_of_operand measure_of_signed extent_algebra
signed_measured t =
    from_layer extent_of_signed (roll-out-SignedOperand t)
    (ap (λ p. p.1) (signed_folded extent_algebra (out-SignedOperand t)))
    (given (extent_of_operand (out-SignedOperand t).operand))

pub link_operators : (o : OpOperand) → operators_of_link o ≡ 1 + operators_of_signed (out-OpOperand o).operand
unfolding extent_algebra
link_operators o = ap operators_of_link (sym (roll-out-OpOperand o))
    ∙ ap (λ p. p.0) (link_folded extent_algebra (out-OpOperand o))

pub signed_operators : (s : SignedOperand) → operators_of_signed s ≡ sign (out-SignedOperand s).negated
unfolding extent_algebra
signed_operators s = ap operators_of_signed (sym (roll-out-SignedOperand s))
    ∙ ap (λ p. p.0) (signed_folded extent_algebra (out-SignedOperand s))

pub ruleset expression_equations = (
  aexp-Var,
  aexp-Con,
  aexp-Literal,
  aexp-Parts,
  aexp-List,
  aexp-LeftSection,
  aexp-RightSection,
  alt_body-Arrow,
  alt_body-GuardedArrows,
  alt_slot-NoAlt,
  alt_slot-Alt,
  decl_slot-NoDecl,
  decl_slot-Decl,
  decl-Signature,
  decl-Fixity,
  decl-Function,
  decl-Pattern,
  exp-Infix,
  exp-Annotated,
  guard-Bind,
  guard-Test,
  locals-Absent,
  locals-Where,
  operand-Lambda,
  operand-Let,
  operand-If,
  operand-Case,
  operand-Apply,
  rhs_body-Equals,
  rhs_body-GuardedEquals,
  alt_block_measured,
  alt_measured,
  case_measured,
  decl_block_measured,
  gd_measured,
  gda_measured,
  if_measured,
  infix_measured,
  lambda_measured,
  let_measured,
  link_measured,
  rhs_measured,
  signed_measured,
  link_operators,
  signed_operators,
)
