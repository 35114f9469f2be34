-- What the measures of patterns and left sides are made of.
use Rattle.std.proofs.Common.{◌≡◌, ℕ, List, length, ap, ◌∙◌}
use Rattle.std.specs.Prelude.{map}
use Rattle.std.proofs.lemmas.List.{length-map}
use Rattle.bp_base.specs.Texts.{Text}
use Rattle.hs_modules.specs.Extents.{Extent}
use Rattle.hs_modules.specs.Extents as e
use Rattle.hs_modules.specs.Measures.{leaf, beside, node, deeper, all_measured}
use Rattle.hs_modules.proofs.MeasuringLemmas.{given, leaf_is, beside_is, node_is, deeper_is, all_is, from_layer}
use Rattle.hs_modules.specs.Measured.{measure_of_apat, measure_of_lpat, measure_of_op_lpat, measure_of_pat}
use Rattle.hs_modules.specs.Measured.{measure_of_fun_lhs}
use Rattle.hs_modules.specs.PartExtents.{apat_extent, lpat_extent, op_lpat_extent, pat_extent, fun_lhs_extent}
use Rattle.hs_modules.specs.PartExtents.{extent_of_apat, extent_of_lpat, extent_of_op_lpat, extent_of_pat}
use Rattle.hs_modules.specs.PartExtents.{extent_of_fun_lhs}
use Rattle.hs_trees.specs.declared.patterns.LiteralTree.{LiteralTree}
use Rattle.hs_trees.specs.declared.patterns.VarTree.{VarTree}
use Rattle.hs_trees.specs.declared.patterns.GConTree.{GConTree}
use Rattle.hs_trees.specs.declared.patterns.APatTree.{APatTree, APatTree-F, fold-roll-APatTree}
use Rattle.hs_trees.specs.declared.patterns.APatTree.TheVariants as va
use Rattle.hs_trees.specs.declared.patterns.LPatTree.{LPatTree, LPatTree-F, fold-roll-LPatTree}
use Rattle.hs_trees.specs.declared.patterns.LPatTree.TheVariants as vl
use Rattle.hs_trees.specs.declared.patterns.OpLPat.{OpLPat, out-OpLPat, roll-out-OpLPat, fold-roll-OpLPat}
use Rattle.hs_trees.specs.declared.patterns.PatTree.{PatTree, out-PatTree, roll-out-PatTree, fold-roll-PatTree}
use Rattle.hs_modules.specs.declared.names.VarOpTree.{VarOpTree}
use Rattle.hs_modules.specs.declared.expressions.FunLhsTree.{FunLhsTree, FunLhsTree-F, fold-roll-FunLhsTree}
use Rattle.hs_modules.specs.declared.expressions.FunLhsTree.TheVariants as vf

pub apat-Var : (name : VarTree) → measure_of_apat (va.Var name) ≡ leaf
unfolding measure_of_apat
apat-Var name =
    from_layer extent_of_apat (va.rolls-Var name) (fold-roll-APatTree Extent Extent Extent Extent apat_extent
    lpat_extent op_lpat_extent pat_extent (APatTree-F.Var name))
    leaf_is

pub apat-As : (name : VarTree) (part : APatTree) → measure_of_apat (va.As name part) ≡ deeper 1
    (node (measure_of_apat part))
unfolding measure_of_apat
apat-As name part =
    from_layer extent_of_apat (va.rolls-As name part)
    (fold-roll-APatTree Extent Extent Extent Extent apat_extent lpat_extent op_lpat_extent pat_extent
    (APatTree-F.As name part))
    (deeper_is 1 (e.node (extent_of_apat part)) (node_is (extent_of_apat part) (given (extent_of_apat part))))

pub apat-Wild : measure_of_apat va.Wild ≡ leaf
unfolding measure_of_apat
apat-Wild =
    from_layer extent_of_apat va.rolls-Wild (fold-roll-APatTree Extent Extent Extent Extent apat_extent lpat_extent
    op_lpat_extent pat_extent APatTree-F.Wild)
    leaf_is

pub apat-Con : (con : GConTree) → measure_of_apat (va.Con con) ≡ node (leaf)
unfolding measure_of_apat
apat-Con con =
    from_layer extent_of_apat (va.rolls-Con con) (fold-roll-APatTree Extent Extent Extent Extent apat_extent lpat_extent
    op_lpat_extent pat_extent (APatTree-F.Con con))
    (node_is e.leaf leaf_is)

pub apat-Literal : (literal : LiteralTree) → measure_of_apat (va.Literal literal) ≡ leaf
unfolding measure_of_apat
apat-Literal literal =
    from_layer extent_of_apat (va.rolls-Literal literal)
    (fold-roll-APatTree Extent Extent Extent Extent apat_extent lpat_extent op_lpat_extent pat_extent
    (APatTree-F.Literal literal))
    leaf_is

pub apat-Parts : (first : PatTree) (rest : List PatTree)
    → measure_of_apat (va.Parts first rest) ≡ deeper 1
    (node (beside (measure_of_pat first) (all_measured measure_of_pat rest)))
unfolding measure_of_apat measure_of_pat
apat-Parts first rest =
    from_layer extent_of_apat (va.rolls-Parts first rest)
    (fold-roll-APatTree Extent Extent Extent Extent apat_extent lpat_extent op_lpat_extent pat_extent
    (APatTree-F.Parts first rest))
    (deeper_is 1 (e.node (e.beside (extent_of_pat first) (e.all_beside (map extent_of_pat rest))))
    (node_is (e.beside (extent_of_pat first) (e.all_beside (map extent_of_pat rest)))
    (beside_is (extent_of_pat first) (e.all_beside (map extent_of_pat rest)) (given (extent_of_pat first))
    (all_is extent_of_pat rest))))

pub apat-List : (first : PatTree) (rest : List PatTree)
    → measure_of_apat (va.List first rest) ≡ deeper 1
    (node (beside (measure_of_pat first) (all_measured measure_of_pat rest)))
unfolding measure_of_apat measure_of_pat
apat-List first rest =
    from_layer extent_of_apat (va.rolls-List first rest)
    (fold-roll-APatTree Extent Extent Extent Extent apat_extent lpat_extent op_lpat_extent pat_extent
    (APatTree-F.List first rest))
    (deeper_is 1 (e.node (e.beside (extent_of_pat first) (e.all_beside (map extent_of_pat rest))))
    (node_is (e.beside (extent_of_pat first) (e.all_beside (map extent_of_pat rest)))
    (beside_is (extent_of_pat first) (e.all_beside (map extent_of_pat rest)) (given (extent_of_pat first))
    (all_is extent_of_pat rest))))

pub apat-Lazy : (part : APatTree) → measure_of_apat (va.Lazy part) ≡ deeper 1 (node (measure_of_apat part))
unfolding measure_of_apat
apat-Lazy part =
    from_layer extent_of_apat (va.rolls-Lazy part)
    (fold-roll-APatTree Extent Extent Extent Extent apat_extent lpat_extent op_lpat_extent pat_extent
    (APatTree-F.Lazy part))
    (deeper_is 1 (e.node (extent_of_apat part)) (node_is (extent_of_apat part) (given (extent_of_apat part))))

pub lpat-Negative : (text : Text) → measure_of_lpat (vl.Negative text) ≡ leaf
unfolding measure_of_lpat
lpat-Negative text =
    from_layer extent_of_lpat (vl.rolls-Negative text)
    (fold-roll-LPatTree Extent Extent Extent Extent apat_extent lpat_extent op_lpat_extent pat_extent
    (LPatTree-F.Negative text))
    leaf_is

pub lpat-Apply : (con : GConTree) (first : APatTree) (rest : List APatTree)
    → measure_of_lpat (vl.Apply con first rest) ≡ node
    (node (beside (measure_of_apat first) (all_measured measure_of_apat rest)))
unfolding measure_of_apat measure_of_lpat
lpat-Apply con first rest =
    from_layer extent_of_lpat (vl.rolls-Apply con first rest)
    (fold-roll-LPatTree Extent Extent Extent Extent apat_extent lpat_extent op_lpat_extent pat_extent
    (LPatTree-F.Apply con first rest))
    (node_is (e.node (e.beside (extent_of_apat first) (e.all_beside (map extent_of_apat rest))))
    (node_is (e.beside (extent_of_apat first) (e.all_beside (map extent_of_apat rest)))
    (beside_is (extent_of_apat first) (e.all_beside (map extent_of_apat rest)) (given (extent_of_apat first))
    (all_is extent_of_apat rest))))

pub lpat-APat : (part : APatTree) → measure_of_lpat (vl.APat part) ≡ node (measure_of_apat part)
unfolding measure_of_apat measure_of_lpat
lpat-APat part =
    from_layer extent_of_lpat (vl.rolls-APat part)
    (fold-roll-LPatTree Extent Extent Extent Extent apat_extent lpat_extent op_lpat_extent pat_extent
    (LPatTree-F.APat part))
    (node_is (extent_of_apat part) (given (extent_of_apat part)))

pub op_lpat_measured : (t : OpLPat) → measure_of_op_lpat t ≡ measure_of_lpat (out-OpLPat t).pat
unfolding measure_of_lpat measure_of_op_lpat
op_lpat_measured t =
    from_layer extent_of_op_lpat (roll-out-OpLPat t)
    (fold-roll-OpLPat Extent Extent Extent Extent apat_extent lpat_extent op_lpat_extent pat_extent (out-OpLPat t))
    (given (extent_of_lpat (out-OpLPat t).pat))

pub pat_measured : (t : PatTree) → measure_of_pat t ≡ deeper (length (out-PatTree t).rest)
    (node (beside (measure_of_lpat (out-PatTree t).first) (all_measured measure_of_op_lpat (out-PatTree t).rest)))
unfolding measure_of_lpat measure_of_op_lpat measure_of_pat
pat_measured t =
    from_layer extent_of_pat (roll-out-PatTree t) (fold-roll-PatTree Extent Extent Extent Extent apat_extent lpat_extent
    op_lpat_extent pat_extent (out-PatTree t)
    ∙ ap (λ n. e.deeper n (e.node (e.beside (extent_of_lpat (out-PatTree t).first)
    (e.all_beside (map extent_of_op_lpat (out-PatTree t).rest))))) (length-map (out-PatTree t).rest extent_of_op_lpat))
    (deeper_is (length (out-PatTree t).rest) (e.node
    (e.beside (extent_of_lpat (out-PatTree t).first) (e.all_beside (map extent_of_op_lpat (out-PatTree t).rest))))
    (node_is (e.beside (extent_of_lpat (out-PatTree t).first)
    (e.all_beside (map extent_of_op_lpat (out-PatTree t).rest)))
    (beside_is (extent_of_lpat (out-PatTree t).first) (e.all_beside (map extent_of_op_lpat (out-PatTree t).rest))
    (given (extent_of_lpat (out-PatTree t).first)) (all_is extent_of_op_lpat (out-PatTree t).rest))))

pub fun_lhs-Prefix : (var : VarTree) (first : APatTree) (rest : List APatTree)
    → measure_of_fun_lhs (vf.Prefix var first rest) ≡ node
    (beside (measure_of_apat first) (all_measured measure_of_apat rest))
unfolding measure_of_apat measure_of_fun_lhs
fun_lhs-Prefix var first rest =
    from_layer extent_of_fun_lhs (vf.rolls-Prefix var first rest)
    (fold-roll-FunLhsTree Extent fun_lhs_extent (FunLhsTree-F.Prefix var first rest))
    (node_is (e.beside (extent_of_apat first) (e.all_beside (map extent_of_apat rest)))
    (beside_is (extent_of_apat first) (e.all_beside (map extent_of_apat rest)) (given (extent_of_apat first))
    (all_is extent_of_apat rest)))

pub fun_lhs-Infix : (left : LPatTree) (op : VarOpTree) (right : LPatTree)
    → measure_of_fun_lhs (vf.Infix left op right) ≡ node (beside (measure_of_lpat left) (measure_of_lpat right))
unfolding measure_of_fun_lhs measure_of_lpat
fun_lhs-Infix left op right =
    from_layer extent_of_fun_lhs (vf.rolls-Infix left op right)
    (fold-roll-FunLhsTree Extent fun_lhs_extent (FunLhsTree-F.Infix left op right))
    (node_is (e.beside (extent_of_lpat left) (extent_of_lpat right))
    (beside_is (extent_of_lpat left) (extent_of_lpat right) (given (extent_of_lpat left))
    (given (extent_of_lpat right))))

pub fun_lhs-Parens : (inner : FunLhsTree) (first : APatTree) (rest : List APatTree)
    → measure_of_fun_lhs (vf.Parens inner first rest) ≡ node
    (beside (beside (deeper 1 (measure_of_fun_lhs inner)) (measure_of_apat first)) (all_measured measure_of_apat rest))
unfolding measure_of_apat measure_of_fun_lhs
fun_lhs-Parens inner first rest =
    from_layer extent_of_fun_lhs (vf.rolls-Parens inner first rest)
    (fold-roll-FunLhsTree Extent fun_lhs_extent (FunLhsTree-F.Parens inner first rest))
    (node_is (e.beside (e.beside (e.deeper 1 (extent_of_fun_lhs inner)) (extent_of_apat first))
    (e.all_beside (map extent_of_apat rest))) (beside_is
    (e.beside (e.deeper 1 (extent_of_fun_lhs inner)) (extent_of_apat first))
    (e.all_beside (map extent_of_apat rest)) (beside_is (e.deeper 1 (extent_of_fun_lhs inner))
    (extent_of_apat first) (deeper_is 1 (extent_of_fun_lhs inner) (given (extent_of_fun_lhs inner)))
    (given (extent_of_apat first))) (all_is extent_of_apat rest)))

pub ruleset pattern_equations = (
  apat-Var,
  apat-As,
  apat-Wild,
  apat-Con,
  apat-Literal,
  apat-Parts,
  apat-List,
  apat-Lazy,
  lpat-Negative,
  lpat-Apply,
  lpat-APat,
  op_lpat_measured,
  pat_measured,
  fun_lhs-Prefix,
  fun_lhs-Infix,
  fun_lhs-Parens,
)
