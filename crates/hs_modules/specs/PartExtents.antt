-- How large and how deep types, kinds, patterns and the left sides of functions are. Brackets, tuples, lists, `x@p` and
-- `~p` make their parts deeper by 1, and a chain by the
-- number of its operators. Each part of a chain of kinds is a `kind` with an `akind`.
use Rattle.std.specs.Prelude.{ℕ, length, map}
use Rattle.hs_modules.specs.Extents.{Extent, leaf, beside, all_beside, node, with_nodes, deeper}
use Rattle.hs_trees.specs.declared.types.ATypeTree.{ATypeTree, ATypeTree-F, fold-ATypeTree}
use Rattle.hs_trees.specs.declared.types.BTypeTree.{BTypeTree, BTypeTree-F, fold-BTypeTree}
use Rattle.hs_trees.specs.declared.types.TypeTree.{TypeTree, TypeTree-F, fold-TypeTree}
use Rattle.hs_trees.specs.declared.types.AKindTree.{AKindTree, AKindTree-F, fold-AKindTree}
use Rattle.hs_trees.specs.declared.types.KindTree.{KindTree, KindTree-F, fold-KindTree}
use Rattle.hs_trees.specs.declared.patterns.PatTree.{PatTree, PatTree-F, fold-PatTree}
use Rattle.hs_trees.specs.declared.patterns.OpLPat.{OpLPat, OpLPat-F, fold-OpLPat}
use Rattle.hs_trees.specs.declared.patterns.LPatTree.{LPatTree, LPatTree-F, fold-LPatTree}
use Rattle.hs_trees.specs.declared.patterns.APatTree.{APatTree, APatTree-F, fold-APatTree}
use Rattle.hs_modules.specs.declared.expressions.FunLhsTree.{FunLhsTree, FunLhsTree-F, fold-FunLhsTree}

-- types
abbrev pub atype_extent : ATypeTree-F Extent Extent Extent → Extent
atype_extent (ATypeTree-F.Parts first rest) = deeper 1 (node (beside first (all_beside rest)))
atype_extent (ATypeTree-F.List inner) = deeper 1 (node inner)
atype_extent _ = leaf

abbrev pub btype_extent : BTypeTree-F Extent Extent Extent → Extent
btype_extent b = node (beside b.first (all_beside b.rest))

abbrev pub type_extent : TypeTree-F Extent Extent Extent → Extent
type_extent y = deeper (length y.rest) (node (beside y.first (all_beside y.rest)))

abbrev pub extent_of_atype : ATypeTree → Extent
extent_of_atype = fold-ATypeTree Extent Extent Extent atype_extent btype_extent type_extent

abbrev pub extent_of_btype : BTypeTree → Extent
extent_of_btype = fold-BTypeTree Extent Extent Extent atype_extent btype_extent type_extent

abbrev pub extent_of_type : TypeTree → Extent
extent_of_type = fold-TypeTree Extent Extent Extent atype_extent btype_extent type_extent

abbrev pub size_of_type : TypeTree → ℕ
size_of_type ty = (extent_of_type ty).size

-- kinds
abbrev pub akind_extent : AKindTree-F Extent Extent → Extent
akind_extent AKindTree-F.Star = leaf
akind_extent (AKindTree-F.Parens inner) = deeper 1 (node inner)

abbrev pub kind_extent : KindTree-F Extent Extent → Extent
kind_extent k = deeper (length k.rest) (with_nodes (length k.rest) (node (beside k.first (all_beside k.rest))))

abbrev pub extent_of_akind : AKindTree → Extent
extent_of_akind = fold-AKindTree Extent Extent akind_extent kind_extent

abbrev pub extent_of_kind : KindTree → Extent
extent_of_kind = fold-KindTree Extent Extent akind_extent kind_extent

abbrev pub size_of_kind : KindTree → ℕ
size_of_kind kind = (extent_of_kind kind).size

-- patterns
abbrev pub apat_extent : APatTree-F Extent Extent Extent Extent → Extent
apat_extent (APatTree-F.Var name) = leaf
apat_extent (APatTree-F.As name part) = deeper 1 (node part)
apat_extent APatTree-F.Wild = leaf
apat_extent (APatTree-F.Con con) = node leaf
apat_extent (APatTree-F.Literal literal) = leaf
apat_extent (APatTree-F.Parts first rest) = deeper 1 (node (beside first (all_beside rest)))
apat_extent (APatTree-F.List first rest) = deeper 1 (node (beside first (all_beside rest)))
apat_extent (APatTree-F.Lazy part) = deeper 1 (node part)

abbrev pub lpat_extent : LPatTree-F Extent Extent Extent Extent → Extent
lpat_extent (LPatTree-F.Negative text) = leaf
lpat_extent (LPatTree-F.Apply con first rest) = node (node (beside first (all_beside rest)))
lpat_extent (LPatTree-F.APat part) = node part

abbrev pub op_lpat_extent : OpLPat-F Extent Extent Extent Extent → Extent
op_lpat_extent x = x.pat

abbrev pub pat_extent : PatTree-F Extent Extent Extent Extent → Extent
pat_extent p = deeper (length p.rest) (node (beside p.first (all_beside p.rest)))

abbrev pub extent_of_apat : APatTree → Extent
extent_of_apat = fold-APatTree Extent Extent Extent Extent apat_extent lpat_extent op_lpat_extent pat_extent

abbrev pub extent_of_lpat : LPatTree → Extent
extent_of_lpat = fold-LPatTree Extent Extent Extent Extent apat_extent lpat_extent op_lpat_extent pat_extent

abbrev pub extent_of_op_lpat : OpLPat → Extent
extent_of_op_lpat = fold-OpLPat Extent Extent Extent Extent apat_extent lpat_extent op_lpat_extent pat_extent

abbrev pub extent_of_pat : PatTree → Extent
extent_of_pat = fold-PatTree Extent Extent Extent Extent apat_extent lpat_extent op_lpat_extent pat_extent

abbrev pub size_of_pat : PatTree → ℕ
size_of_pat pat = (extent_of_pat pat).size

-- the left sides of functions; brackets about them count
abbrev pub fun_lhs_extent : FunLhsTree-F Extent → Extent
fun_lhs_extent (FunLhsTree-F.Prefix var first rest) =
    node (beside (extent_of_apat first) (all_beside (map extent_of_apat rest)))
fun_lhs_extent (FunLhsTree-F.Infix left op right) = node (beside (extent_of_lpat left) (extent_of_lpat right))
fun_lhs_extent (FunLhsTree-F.Parens inner first rest) =
    node (beside (beside (deeper 1 inner) (extent_of_apat first)) (all_beside (map extent_of_apat rest)))

abbrev pub extent_of_fun_lhs : FunLhsTree → Extent
extent_of_fun_lhs = fold-FunLhsTree Extent fun_lhs_extent
