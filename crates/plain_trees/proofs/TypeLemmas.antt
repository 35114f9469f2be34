-- What the tests of types are made of.
use Rattle.std.proofs.Common.{◌≡◌, ℕ, Bool, false, ◌&&◌, List, sym, ap, ◌∙◌}
use Rattle.std.specs.Prelude.{map, codes, ◌==◌}
use Rattle.std.proofs.lemmas.List.{length-map}
use Rattle.std.specs.Str.{bytes_eq}
use Rattle.bp_base.specs.Texts.{Text}
use Rattle.hs_trees.specs.declared.types.ATypeTree.{ATypeTree-F, fold-roll-ATypeTree}
use Rattle.hs_trees.specs.declared.types.ATypeTree.TheVariants as va
use Rattle.hs_trees.specs.declared.types.BTypeTree.{BTypeTree, out-BTypeTree, roll-out-BTypeTree, fold-roll-BTypeTree}
use Rattle.hs_trees.specs.declared.types.TypeTree.{TypeTree, out-TypeTree, roll-out-TypeTree, fold-roll-TypeTree}
use Rattle.plain_trees.specs.Types.{is_nothing, atype_is_int, btype_is_int, type_is_int, is_int_atype, is_int_btype}
use Rattle.plain_trees.specs.Types.{is_int_type}

-- as many stand behind a map
pub is_nothing_map : {A B : Type 0} (f : A → B) (xs : List A) → is_nothing (map f xs) ≡ is_nothing xs
is_nothing_map f xs = ap (λ n. n == 0) (length-map xs f)

pub atype-Con : (name : Text) → is_int_atype (va.Con name) ≡ bytes_eq name (codes "Int")
unfolding is_int_atype
atype-Con name = ap is_int_atype (sym (va.rolls-Con name))
    ∙ fold-roll-ATypeTree Bool Bool Bool atype_is_int btype_is_int type_is_int (ATypeTree-F.Con name)

pub atype-Unit : is_int_atype va.Unit ≡ false
unfolding is_int_atype
atype-Unit = ap is_int_atype (sym va.rolls-Unit)
    ∙ fold-roll-ATypeTree Bool Bool Bool atype_is_int btype_is_int type_is_int ATypeTree-F.Unit

pub atype-ListCon : is_int_atype va.ListCon ≡ false
unfolding is_int_atype is_int_type
atype-ListCon = ap is_int_atype (sym va.rolls-ListCon)
    ∙ fold-roll-ATypeTree Bool Bool Bool atype_is_int btype_is_int type_is_int ATypeTree-F.ListCon

pub atype-ArrowCon : is_int_atype va.ArrowCon ≡ false
unfolding is_int_atype is_int_type
atype-ArrowCon = ap is_int_atype (sym va.rolls-ArrowCon)
    ∙ fold-roll-ATypeTree Bool Bool Bool atype_is_int btype_is_int type_is_int ATypeTree-F.ArrowCon

pub atype-TupleCon : (commas : ℕ) → is_int_atype (va.TupleCon commas) ≡ false
unfolding is_int_atype is_int_type
atype-TupleCon commas = ap is_int_atype (sym (va.rolls-TupleCon commas))
    ∙ fold-roll-ATypeTree Bool Bool Bool atype_is_int btype_is_int type_is_int (ATypeTree-F.TupleCon commas)

pub atype-Var : (name : Text) → is_int_atype (va.Var name) ≡ false
unfolding is_int_atype is_int_type
atype-Var name = ap is_int_atype (sym (va.rolls-Var name))
    ∙ fold-roll-ATypeTree Bool Bool Bool atype_is_int btype_is_int type_is_int (ATypeTree-F.Var name)

pub atype-List : (inner : TypeTree) → is_int_atype (va.List inner) ≡ false
unfolding is_int_atype is_int_type
atype-List inner = ap is_int_atype (sym (va.rolls-List inner))
    ∙ fold-roll-ATypeTree Bool Bool Bool atype_is_int btype_is_int type_is_int (ATypeTree-F.List inner)

pub atype-Parts : (first : TypeTree) (rest : List TypeTree) → is_int_atype (va.Parts first rest)
    ≡ is_int_type first && is_nothing rest
unfolding is_int_atype is_int_type
atype-Parts first rest = ap is_int_atype (sym (va.rolls-Parts first rest))
    ∙ fold-roll-ATypeTree Bool Bool Bool atype_is_int btype_is_int type_is_int (ATypeTree-F.Parts first rest)
    ∙ ap (λ b. is_int_type first && b) (is_nothing_map is_int_type rest)

pub btype_is : (t : BTypeTree) → is_int_btype t ≡ is_int_atype (out-BTypeTree t).first && is_nothing (out-BTypeTree t).rest
unfolding is_int_atype is_int_btype
btype_is t = ap is_int_btype (sym (roll-out-BTypeTree t))
    ∙ fold-roll-BTypeTree Bool Bool Bool atype_is_int btype_is_int type_is_int (out-BTypeTree t)
    ∙ ap (λ b. is_int_atype (out-BTypeTree t).first && b) (is_nothing_map is_int_atype (out-BTypeTree t).rest)

pub type_is : (t : TypeTree) → is_int_type t ≡ is_int_btype (out-TypeTree t).first && is_nothing (out-TypeTree t).rest
unfolding is_int_btype is_int_type
type_is t = ap is_int_type (sym (roll-out-TypeTree t))
    ∙ fold-roll-TypeTree Bool Bool Bool atype_is_int btype_is_int type_is_int (out-TypeTree t)
    ∙ ap (λ b. is_int_btype (out-TypeTree t).first && b) (is_nothing_map is_int_btype (out-TypeTree t).rest)

pub ruleset type_equations = (
  atype-Con,
  atype-Unit,
  atype-ListCon,
  atype-ArrowCon,
  atype-TupleCon,
  atype-Var,
  atype-List,
  atype-Parts,
  btype_is,
  type_is,
)
