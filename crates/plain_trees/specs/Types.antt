-- Types made of `Int` and arrows, as they are written; round brackets may stand about an `Int`.
use Rattle.std.specs.Prelude.{ℕ, Bool, false, ◌&&◌, ◌==◌, List, length, codes, Option, Some, None}
use Rattle.std.specs.Prelude.{if◌then◌else◌}
use Rattle.std.specs.List.{list_all}
use Rattle.std.specs.Str.{bytes_eq}
use Rattle.hs_trees.specs.declared.types.ATypeTree.{ATypeTree, ATypeTree-F, fold-ATypeTree}
use Rattle.hs_trees.specs.declared.types.BTypeTree.{BTypeTree, BTypeTree-F, fold-BTypeTree}
use Rattle.hs_trees.specs.declared.types.TypeTree.{TypeTree, TypeTree-F, fold-TypeTree, out-TypeTree}

-- nothing stands there
abbrev pub is_nothing : {A : Type 0} → List A → Bool
is_nothing xs = length xs == 0

abbrev pub atype_is_int : ATypeTree-F Bool Bool Bool → Bool
atype_is_int (ATypeTree-F.Con name) = bytes_eq name (codes "Int")
atype_is_int (ATypeTree-F.Parts first rest) = first && is_nothing rest
atype_is_int _ = false

abbrev pub btype_is_int : BTypeTree-F Bool Bool Bool → Bool
btype_is_int b = b.first && is_nothing b.rest

abbrev pub type_is_int : TypeTree-F Bool Bool Bool → Bool
type_is_int y = y.first && is_nothing y.rest

-- the type is `Int`, in any number of brackets
unfoldable pub is_int_atype : ATypeTree → Bool
is_int_atype = fold-ATypeTree Bool Bool Bool atype_is_int btype_is_int type_is_int

unfoldable pub is_int_btype : BTypeTree → Bool
is_int_btype = fold-BTypeTree Bool Bool Bool atype_is_int btype_is_int type_is_int

unfoldable pub is_int_type : TypeTree → Bool
is_int_type = fold-TypeTree Bool Bool Bool atype_is_int btype_is_int type_is_int

-- how many arrows stand in `Int -> .. -> Int`
abbrev pub arrows_of : TypeTree → Option ℕ
arrows_of ty =
    if is_int_btype (out-TypeTree ty).first && list_all is_int_btype (out-TypeTree ty).rest
    then Some (length (out-TypeTree ty).rest) else None
