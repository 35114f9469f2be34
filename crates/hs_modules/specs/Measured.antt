-- The measures of trees: their extents, whose numbers stop at the greatest u64.
use Rattle.hs_modules.specs.declared.measure.Measure.{Measure}
use Rattle.hs_modules.specs.Measures.{measured}
use Rattle.hs_modules.specs.PartExtents.{extent_of_atype, extent_of_btype, extent_of_type, extent_of_akind}
use Rattle.hs_modules.specs.PartExtents.{extent_of_kind, extent_of_apat, extent_of_lpat, extent_of_op_lpat}
use Rattle.hs_modules.specs.PartExtents.{extent_of_pat, extent_of_fun_lhs}
use Rattle.hs_modules.specs.ExpressionExtents.{extent_of_aexp, extent_of_alt_body, extent_of_alt_slot}
use Rattle.hs_modules.specs.ExpressionExtents.{extent_of_decl_slot, extent_of_decl, extent_of_exp, extent_of_guard}
use Rattle.hs_modules.specs.ExpressionExtents.{extent_of_locals, extent_of_operand, extent_of_rhs_body}
use Rattle.hs_modules.specs.ExpressionExtents.{extent_of_alt_block, extent_of_alt, extent_of_case, extent_of_decl_block}
use Rattle.hs_modules.specs.ExpressionExtents.{extent_of_gd, extent_of_gda, extent_of_if, extent_of_infix}
use Rattle.hs_modules.specs.ExpressionExtents.{extent_of_lambda, extent_of_let, extent_of_link, extent_of_rhs}
use Rattle.hs_modules.specs.ExpressionExtents.{extent_of_signed}
use Rattle.hs_modules.specs.Modules.{extent_of_side, extent_of_field, extent_of_constr, extent_of_top_decl}
use Rattle.hs_modules.specs.Modules.{extent_of_sig_decl, extent_of_subs, extent_of_export, extent_of_exports}
use Rattle.hs_modules.specs.Modules.{extent_of_item, extent_of_import_list, extent_of_import, extent_of_top_slot}
use Rattle.hs_modules.specs.Modules.{extent_of_top_block, extent_of_sig_slot, extent_of_sig_block, extent_of_module}
use Rattle.hs_trees.specs.declared.types.ATypeTree.{ATypeTree}
use Rattle.hs_trees.specs.declared.types.BTypeTree.{BTypeTree}
use Rattle.hs_trees.specs.declared.types.TypeTree.{TypeTree}
use Rattle.hs_trees.specs.declared.types.AKindTree.{AKindTree}
use Rattle.hs_trees.specs.declared.types.KindTree.{KindTree}
use Rattle.hs_trees.specs.declared.patterns.APatTree.{APatTree}
use Rattle.hs_trees.specs.declared.patterns.LPatTree.{LPatTree}
use Rattle.hs_trees.specs.declared.patterns.OpLPat.{OpLPat}
use Rattle.hs_trees.specs.declared.patterns.PatTree.{PatTree}
use Rattle.hs_modules.specs.declared.expressions.FunLhsTree.{FunLhsTree}
use Rattle.hs_modules.specs.declared.expressions.AExpTree.{AExpTree}
use Rattle.hs_modules.specs.declared.expressions.AltBody.{AltBody}
use Rattle.hs_modules.specs.declared.expressions.AltSlot.{AltSlot}
use Rattle.hs_modules.specs.declared.expressions.DeclSlot.{DeclSlot}
use Rattle.hs_modules.specs.declared.expressions.DeclTree.{DeclTree}
use Rattle.hs_modules.specs.declared.expressions.ExpTree.{ExpTree}
use Rattle.hs_modules.specs.declared.expressions.GuardTree.{GuardTree}
use Rattle.hs_modules.specs.declared.expressions.Locals.{Locals}
use Rattle.hs_modules.specs.declared.expressions.OperandTree.{OperandTree}
use Rattle.hs_modules.specs.declared.expressions.RhsBody.{RhsBody}
use Rattle.hs_modules.specs.declared.expressions.AltBlock.{AltBlock}
use Rattle.hs_modules.specs.declared.expressions.AltTree.{AltTree}
use Rattle.hs_modules.specs.declared.expressions.CaseTree.{CaseTree}
use Rattle.hs_modules.specs.declared.expressions.DeclBlock.{DeclBlock}
use Rattle.hs_modules.specs.declared.expressions.GdTree.{GdTree}
use Rattle.hs_modules.specs.declared.expressions.GdaTree.{GdaTree}
use Rattle.hs_modules.specs.declared.expressions.IfTree.{IfTree}
use Rattle.hs_modules.specs.declared.expressions.InfixTree.{InfixTree}
use Rattle.hs_modules.specs.declared.expressions.LambdaTree.{LambdaTree}
use Rattle.hs_modules.specs.declared.expressions.LetTree.{LetTree}
use Rattle.hs_modules.specs.declared.expressions.OpOperand.{OpOperand}
use Rattle.hs_modules.specs.declared.expressions.RhsTree.{RhsTree}
use Rattle.hs_modules.specs.declared.expressions.SignedOperand.{SignedOperand}
use Rattle.hs_modules.specs.declared.declarations.ConstrSide.{ConstrSide}
use Rattle.hs_modules.specs.declared.declarations.Field.{Field}
use Rattle.hs_modules.specs.declared.declarations.ConstrTree.{ConstrTree}
use Rattle.hs_modules.specs.declared.declarations.TopDeclTree.{TopDeclTree}
use Rattle.hs_modules.specs.declared.declarations.SigDeclTree.{SigDeclTree}
use Rattle.hs_modules.specs.declared.module.SubsTree.{SubsTree}
use Rattle.hs_modules.specs.declared.module.ExportTree.{ExportTree}
use Rattle.hs_modules.specs.declared.module.ExportsTree.{ExportsTree}
use Rattle.hs_modules.specs.declared.module.ItemTree.{ItemTree}
use Rattle.hs_modules.specs.declared.module.ImportList.{ImportList}
use Rattle.hs_modules.specs.declared.module.ImpDeclTree.{ImpDeclTree}
use Rattle.hs_modules.specs.declared.declarations.TopSlot.{TopSlot}
use Rattle.hs_modules.specs.declared.declarations.TopBlock.{TopBlock}
use Rattle.hs_modules.specs.declared.declarations.SigSlot.{SigSlot}
use Rattle.hs_modules.specs.declared.declarations.SigBlock.{SigBlock}
use Rattle.hs_modules.specs.declared.module.Module.{Module}

unfoldable pub measure_of_atype : ATypeTree → Measure
measure_of_atype tree = measured (extent_of_atype tree)

unfoldable pub measure_of_btype : BTypeTree → Measure
measure_of_btype tree = measured (extent_of_btype tree)

unfoldable pub measure_of_type : TypeTree → Measure
measure_of_type tree = measured (extent_of_type tree)

unfoldable pub measure_of_akind : AKindTree → Measure
measure_of_akind tree = measured (extent_of_akind tree)

unfoldable pub measure_of_kind : KindTree → Measure
measure_of_kind tree = measured (extent_of_kind tree)

unfoldable pub measure_of_apat : APatTree → Measure
measure_of_apat tree = measured (extent_of_apat tree)

unfoldable pub measure_of_lpat : LPatTree → Measure
measure_of_lpat tree = measured (extent_of_lpat tree)

unfoldable pub measure_of_op_lpat : OpLPat → Measure
measure_of_op_lpat tree = measured (extent_of_op_lpat tree)

unfoldable pub measure_of_pat : PatTree → Measure
measure_of_pat tree = measured (extent_of_pat tree)

unfoldable pub measure_of_fun_lhs : FunLhsTree → Measure
measure_of_fun_lhs tree = measured (extent_of_fun_lhs tree)

unfoldable pub measure_of_aexp : AExpTree → Measure
measure_of_aexp tree = measured (extent_of_aexp tree)

unfoldable pub measure_of_alt_body : AltBody → Measure
measure_of_alt_body tree = measured (extent_of_alt_body tree)

unfoldable pub measure_of_alt_slot : AltSlot → Measure
measure_of_alt_slot tree = measured (extent_of_alt_slot tree)

unfoldable pub measure_of_decl_slot : DeclSlot → Measure
measure_of_decl_slot tree = measured (extent_of_decl_slot tree)

unfoldable pub measure_of_decl : DeclTree → Measure
measure_of_decl tree = measured (extent_of_decl tree)

unfoldable pub measure_of_exp : ExpTree → Measure
measure_of_exp tree = measured (extent_of_exp tree)

unfoldable pub measure_of_guard : GuardTree → Measure
measure_of_guard tree = measured (extent_of_guard tree)

unfoldable pub measure_of_locals : Locals → Measure
measure_of_locals tree = measured (extent_of_locals tree)

unfoldable pub measure_of_operand : OperandTree → Measure
measure_of_operand tree = measured (extent_of_operand tree)

unfoldable pub measure_of_rhs_body : RhsBody → Measure
measure_of_rhs_body tree = measured (extent_of_rhs_body tree)

unfoldable pub measure_of_alt_block : AltBlock → Measure
measure_of_alt_block tree = measured (extent_of_alt_block tree)

unfoldable pub measure_of_alt : AltTree → Measure
measure_of_alt tree = measured (extent_of_alt tree)

unfoldable pub measure_of_case : CaseTree → Measure
measure_of_case tree = measured (extent_of_case tree)

unfoldable pub measure_of_decl_block : DeclBlock → Measure
measure_of_decl_block tree = measured (extent_of_decl_block tree)

unfoldable pub measure_of_gd : GdTree → Measure
measure_of_gd tree = measured (extent_of_gd tree)

unfoldable pub measure_of_gda : GdaTree → Measure
measure_of_gda tree = measured (extent_of_gda tree)

unfoldable pub measure_of_if : IfTree → Measure
measure_of_if tree = measured (extent_of_if tree)

unfoldable pub measure_of_infix : InfixTree → Measure
measure_of_infix tree = measured (extent_of_infix tree)

unfoldable pub measure_of_lambda : LambdaTree → Measure
measure_of_lambda tree = measured (extent_of_lambda tree)

unfoldable pub measure_of_let : LetTree → Measure
measure_of_let tree = measured (extent_of_let tree)

unfoldable pub measure_of_link : OpOperand → Measure
measure_of_link tree = measured (extent_of_link tree)

unfoldable pub measure_of_rhs : RhsTree → Measure
measure_of_rhs tree = measured (extent_of_rhs tree)

unfoldable pub measure_of_signed : SignedOperand → Measure
measure_of_signed tree = measured (extent_of_signed tree)

unfoldable pub measure_of_side : ConstrSide → Measure
measure_of_side tree = measured (extent_of_side tree)

unfoldable pub measure_of_field : Field → Measure
measure_of_field tree = measured (extent_of_field tree)

unfoldable pub measure_of_constr : ConstrTree → Measure
measure_of_constr tree = measured (extent_of_constr tree)

unfoldable pub measure_of_top_decl : TopDeclTree → Measure
measure_of_top_decl tree = measured (extent_of_top_decl tree)

unfoldable pub measure_of_sig_decl : SigDeclTree → Measure
measure_of_sig_decl tree = measured (extent_of_sig_decl tree)

unfoldable pub measure_of_subs : SubsTree → Measure
measure_of_subs tree = measured (extent_of_subs tree)

unfoldable pub measure_of_export : ExportTree → Measure
measure_of_export tree = measured (extent_of_export tree)

unfoldable pub measure_of_exports : ExportsTree → Measure
measure_of_exports tree = measured (extent_of_exports tree)

unfoldable pub measure_of_item : ItemTree → Measure
measure_of_item tree = measured (extent_of_item tree)

unfoldable pub measure_of_import_list : ImportList → Measure
measure_of_import_list tree = measured (extent_of_import_list tree)

unfoldable pub measure_of_import : ImpDeclTree → Measure
measure_of_import tree = measured (extent_of_import tree)

unfoldable pub measure_of_top_slot : TopSlot → Measure
measure_of_top_slot tree = measured (extent_of_top_slot tree)

unfoldable pub measure_of_top_block : TopBlock → Measure
measure_of_top_block tree = measured (extent_of_top_block tree)

unfoldable pub measure_of_sig_slot : SigSlot → Measure
measure_of_sig_slot tree = measured (extent_of_sig_slot tree)

unfoldable pub measure_of_sig_block : SigBlock → Measure
measure_of_sig_block tree = measured (extent_of_sig_block tree)

unfoldable pub measure_of_module : Module → Measure
measure_of_module tree = measured (extent_of_module tree)
