-- What the measures of types and kinds are made of.
use Rattle.std.proofs.Common.{◌≡◌, ℕ, List, length, ap, ◌∙◌}
use Rattle.std.specs.Prelude.{map}
use Rattle.std.proofs.lemmas.List.{length-map}
use Rattle.bp_base.specs.Texts.{Text}
use Rattle.hs_modules.specs.Extents.{Extent}
use Rattle.hs_modules.specs.Extents as e
use Rattle.hs_modules.specs.Measures.{leaf, beside, node, deeper, with_nodes, all_measured}
use Rattle.hs_modules.proofs.MeasuringLemmas.{given, leaf_is, beside_is, node_is, deeper_is, with_nodes_is, all_is}
use Rattle.hs_modules.proofs.MeasuringLemmas.{from_layer}
use Rattle.hs_modules.specs.Measured.{measure_of_atype, measure_of_btype, measure_of_type, measure_of_akind}
use Rattle.hs_modules.specs.Measured.{measure_of_kind}
use Rattle.hs_modules.specs.PartExtents.{atype_extent, btype_extent, type_extent, akind_extent, kind_extent}
use Rattle.hs_modules.specs.PartExtents.{extent_of_atype, extent_of_btype, extent_of_type, extent_of_akind}
use Rattle.hs_modules.specs.PartExtents.{extent_of_kind}
use Rattle.hs_trees.specs.declared.types.ATypeTree.{ATypeTree-F, fold-roll-ATypeTree}
use Rattle.hs_trees.specs.declared.types.ATypeTree.TheVariants as va
use Rattle.hs_trees.specs.declared.types.BTypeTree.{BTypeTree, out-BTypeTree, roll-out-BTypeTree, fold-roll-BTypeTree}
use Rattle.hs_trees.specs.declared.types.TypeTree.{TypeTree, out-TypeTree, roll-out-TypeTree, fold-roll-TypeTree}
use Rattle.hs_trees.specs.declared.types.AKindTree.{AKindTree-F, fold-roll-AKindTree}
use Rattle.hs_trees.specs.declared.types.AKindTree.TheVariants as vk
use Rattle.hs_trees.specs.declared.types.KindTree.{KindTree, out-KindTree, roll-out-KindTree, fold-roll-KindTree}

pub atype-Con : (name : Text) → measure_of_atype (va.Con name) ≡ leaf
unfolding measure_of_atype
atype-Con name =
    from_layer extent_of_atype (va.rolls-Con name)
    (fold-roll-ATypeTree Extent Extent Extent atype_extent btype_extent type_extent (ATypeTree-F.Con name))
    leaf_is

pub atype-Unit : measure_of_atype va.Unit ≡ leaf
unfolding measure_of_atype
atype-Unit =
    from_layer extent_of_atype va.rolls-Unit (fold-roll-ATypeTree Extent Extent Extent atype_extent btype_extent
    type_extent ATypeTree-F.Unit)
    leaf_is

pub atype-ListCon : measure_of_atype va.ListCon ≡ leaf
unfolding measure_of_atype
atype-ListCon =
    from_layer extent_of_atype va.rolls-ListCon (fold-roll-ATypeTree Extent Extent Extent atype_extent btype_extent
    type_extent ATypeTree-F.ListCon)
    leaf_is

pub atype-ArrowCon : measure_of_atype va.ArrowCon ≡ leaf
unfolding measure_of_atype
atype-ArrowCon =
    from_layer extent_of_atype va.rolls-ArrowCon (fold-roll-ATypeTree Extent Extent Extent atype_extent btype_extent
    type_extent ATypeTree-F.ArrowCon)
    leaf_is

pub atype-TupleCon : (commas : ℕ) → measure_of_atype (va.TupleCon commas) ≡ leaf
unfolding measure_of_atype
atype-TupleCon commas =
    from_layer extent_of_atype (va.rolls-TupleCon commas)
    (fold-roll-ATypeTree Extent Extent Extent atype_extent btype_extent type_extent (ATypeTree-F.TupleCon commas))
    leaf_is

pub atype-Var : (name : Text) → measure_of_atype (va.Var name) ≡ leaf
unfolding measure_of_atype
atype-Var name =
    from_layer extent_of_atype (va.rolls-Var name)
    (fold-roll-ATypeTree Extent Extent Extent atype_extent btype_extent type_extent (ATypeTree-F.Var name))
    leaf_is

pub atype-Parts : (first : TypeTree) (rest : List TypeTree)
    → measure_of_atype (va.Parts first rest) ≡ deeper 1
    (node (beside (measure_of_type first) (all_measured measure_of_type rest)))
unfolding measure_of_atype measure_of_type
atype-Parts first rest =
    from_layer extent_of_atype (va.rolls-Parts first rest)
    (fold-roll-ATypeTree Extent Extent Extent atype_extent btype_extent type_extent (ATypeTree-F.Parts first rest))
    (deeper_is 1 (e.node (e.beside (extent_of_type first) (e.all_beside (map extent_of_type rest))))
    (node_is (e.beside (extent_of_type first) (e.all_beside (map extent_of_type rest)))
    (beside_is (extent_of_type first) (e.all_beside (map extent_of_type rest)) (given (extent_of_type first))
    (all_is extent_of_type rest))))

pub atype-List : (inner : TypeTree) → measure_of_atype (va.List inner) ≡ deeper 1 (node (measure_of_type inner))
unfolding measure_of_atype measure_of_type
atype-List inner =
    from_layer extent_of_atype (va.rolls-List inner)
    (fold-roll-ATypeTree Extent Extent Extent atype_extent btype_extent type_extent (ATypeTree-F.List inner))
    (deeper_is 1 (e.node (extent_of_type inner)) (node_is (extent_of_type inner) (given (extent_of_type inner))))

pub btype_measured : (t : BTypeTree) → measure_of_btype t ≡ node
    (beside (measure_of_atype (out-BTypeTree t).first) (all_measured measure_of_atype (out-BTypeTree t).rest))
unfolding measure_of_atype measure_of_btype
btype_measured t =
    from_layer extent_of_btype (roll-out-BTypeTree t)
    (fold-roll-BTypeTree Extent Extent Extent atype_extent btype_extent type_extent (out-BTypeTree t))
    (node_is (e.beside (extent_of_atype (out-BTypeTree t).first)
    (e.all_beside (map extent_of_atype (out-BTypeTree t).rest)))
    (beside_is (extent_of_atype (out-BTypeTree t).first) (e.all_beside (map extent_of_atype (out-BTypeTree t).rest))
    (given (extent_of_atype (out-BTypeTree t).first)) (all_is extent_of_atype (out-BTypeTree t).rest)))

pub type_measured : (t : TypeTree) → measure_of_type t ≡ deeper (length (out-TypeTree t).rest)
    (node (beside (measure_of_btype (out-TypeTree t).first) (all_measured measure_of_btype (out-TypeTree t).rest)))
unfolding measure_of_btype measure_of_type
type_measured t =
    from_layer extent_of_type (roll-out-TypeTree t)
    (fold-roll-TypeTree Extent Extent Extent atype_extent btype_extent type_extent (out-TypeTree t)
    ∙ ap (λ n. e.deeper n (e.node (e.beside (extent_of_btype (out-TypeTree t).first)
    (e.all_beside (map extent_of_btype (out-TypeTree t).rest))))) (length-map (out-TypeTree t).rest extent_of_btype))
    (deeper_is (length (out-TypeTree t).rest) (e.node
    (e.beside (extent_of_btype (out-TypeTree t).first) (e.all_beside (map extent_of_btype (out-TypeTree t).rest))))
    (node_is (e.beside (extent_of_btype (out-TypeTree t).first)
    (e.all_beside (map extent_of_btype (out-TypeTree t).rest)))
    (beside_is (extent_of_btype (out-TypeTree t).first) (e.all_beside (map extent_of_btype (out-TypeTree t).rest))
    (given (extent_of_btype (out-TypeTree t).first)) (all_is extent_of_btype (out-TypeTree t).rest))))

pub akind-Star : measure_of_akind vk.Star ≡ leaf
unfolding measure_of_akind
akind-Star =
    from_layer extent_of_akind vk.rolls-Star (fold-roll-AKindTree Extent Extent akind_extent kind_extent
    AKindTree-F.Star)
    leaf_is

pub akind-Parens : (inner : KindTree) → measure_of_akind (vk.Parens inner) ≡ deeper 1 (node (measure_of_kind inner))
unfolding measure_of_akind measure_of_kind
akind-Parens inner =
    from_layer extent_of_akind (vk.rolls-Parens inner)
    (fold-roll-AKindTree Extent Extent akind_extent kind_extent (AKindTree-F.Parens inner))
    (deeper_is 1 (e.node (extent_of_kind inner)) (node_is (extent_of_kind inner) (given (extent_of_kind inner))))

pub kind_measured : (t : KindTree) → measure_of_kind t ≡ deeper (length (out-KindTree t).rest)
    (with_nodes (length (out-KindTree t).rest) (node
    (beside (measure_of_akind (out-KindTree t).first) (all_measured measure_of_akind (out-KindTree t).rest))))
unfolding measure_of_akind measure_of_kind
kind_measured t =
    from_layer extent_of_kind (roll-out-KindTree t)
    (fold-roll-KindTree Extent Extent akind_extent kind_extent (out-KindTree t)
    ∙ ap (λ n. e.deeper n (e.with_nodes n (e.node (e.beside (extent_of_akind (out-KindTree t).first)
    (e.all_beside (map extent_of_akind (out-KindTree t).rest)))))) (length-map (out-KindTree t).rest extent_of_akind))
    (deeper_is (length (out-KindTree t).rest) (e.with_nodes (length (out-KindTree t).rest)
    (e.node (e.beside (extent_of_akind (out-KindTree t).first)
    (e.all_beside (map extent_of_akind (out-KindTree t).rest)))))
    (with_nodes_is (length (out-KindTree t).rest)
    (e.node (e.beside (extent_of_akind (out-KindTree t).first)
    (e.all_beside (map extent_of_akind (out-KindTree t).rest))))
    (node_is (e.beside (extent_of_akind (out-KindTree t).first)
    (e.all_beside (map extent_of_akind (out-KindTree t).rest)))
    (beside_is (extent_of_akind (out-KindTree t).first) (e.all_beside (map extent_of_akind (out-KindTree t).rest))
    (given (extent_of_akind (out-KindTree t).first)) (all_is extent_of_akind (out-KindTree t).rest)))))

pub ruleset type_equations = (
  atype-Con,
  atype-Unit,
  atype-ListCon,
  atype-ArrowCon,
  atype-TupleCon,
  atype-Var,
  atype-Parts,
  atype-List,
  btype_measured,
  type_measured,
  akind-Star,
  akind-Parens,
  kind_measured,
)
