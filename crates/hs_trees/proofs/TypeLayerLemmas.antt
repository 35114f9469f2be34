-- The trees of types, one layer at a time.
use Rattle.std.proofs.Common.{◌≡◌, ℕ, suc, ◌+◌, Bool, true, List, [], ◌∷◌, ◌++◌, length, refl, ap, ◌∙◌, subst}
use Rattle.std.specs.Prelude.{flat_map, map, max, ◌&&◌}
use Rattle.std.proofs.lemmas.List.Folds.{flat_map-map}
use Rattle.hs_forms.specs.Reading.{begins}
use Rattle.hs_forms.specs.Limits.{deepest, all_of}
use Rattle.hs_trees.specs.Types.{atype_tokens, btype_tokens, type_tokens, atype_depth, btype_depth, type_depth}
use Rattle.hs_trees.specs.Types.{atype_formed, btype_formed, type_formed, starts_atype, spelling_atype, spelling_btype}
use Rattle.hs_trees.specs.Types.{spelling_type, depth_of_atype, depth_of_btype, depth_of_type, is_atype, is_btype}
use Rattle.hs_trees.specs.Types.{is_type}
use Rattle.hs_tokens.specs.declared.terminal.Terminal.{Terminal}
use Rattle.hs_tokens.specs.declared.terminal.Terminal.TheVariants as t
use Rattle.hs_trees.specs.declared.types.ATypeTree.{ATypeTree, ATypeTree-F, out-ATypeTree, roll-ATypeTree}
use Rattle.hs_trees.specs.declared.types.ATypeTree.{roll-out-ATypeTree, fold-roll-ATypeTree, map-ATypeTree}
use Rattle.hs_trees.specs.declared.types.BTypeTree.{BTypeTree, BTypeTree-F, out-BTypeTree, roll-BTypeTree}
use Rattle.hs_trees.specs.declared.types.BTypeTree.{roll-out-BTypeTree, fold-roll-BTypeTree}
use Rattle.hs_trees.specs.declared.types.TypeTree.{TypeTree, TypeTree-F, out-TypeTree, roll-TypeTree, roll-out-TypeTree}
use Rattle.hs_trees.specs.declared.types.TypeTree.{fold-roll-TypeTree}
use Rattle.hs_forms.proofs.FormLemmas.{begins_append}

abbrev pub ALayer : Type 0
ALayer = ATypeTree-F ATypeTree BTypeTree TypeTree

abbrev pub BLayer : Type 0
BLayer = BTypeTree-F ATypeTree BTypeTree TypeTree

abbrev pub Layer : Type 0
Layer = TypeTree-F ATypeTree BTypeTree TypeTree

pub atype_spelled : (l : ALayer) →
    spelling_atype (roll-ATypeTree l) ≡ atype_tokens
    (map-ATypeTree _ _ _ _ _ _ spelling_atype spelling_btype spelling_type l)
atype_spelled l = fold-roll-ATypeTree (List Terminal) (List Terminal)
    (List Terminal) atype_tokens btype_tokens type_tokens l

pub atype_deep : (l : ALayer) →
    depth_of_atype (roll-ATypeTree l) ≡ atype_depth
    (map-ATypeTree _ _ _ _ _ _ depth_of_atype depth_of_btype depth_of_type l)
atype_deep l = fold-roll-ATypeTree ℕ ℕ ℕ atype_depth btype_depth type_depth l

pub atype_is : (l : ALayer) →
    is_atype (roll-ATypeTree l) ≡ atype_formed (map-ATypeTree _ _ _ _ _ _ is_atype is_btype is_type l)
atype_is l = fold-roll-ATypeTree Bool Bool Bool atype_formed btype_formed type_formed l

pub btype_spelled : (l : BLayer) → spelling_btype (roll-BTypeTree l) ≡ spelling_atype l.first
    ++ flat_map spelling_atype l.rest
btype_spelled l =
    fold-roll-BTypeTree (List Terminal) (List Terminal) (List Terminal) atype_tokens btype_tokens type_tokens l
    ∙ ap (λ xs. spelling_atype l.first ++ xs) (flat_map-map (λ x. x) spelling_atype l.rest)

pub btype_deep : (l : BLayer) → depth_of_btype (roll-BTypeTree l) ≡ max (depth_of_atype l.first)
    (deepest (map depth_of_atype l.rest))
btype_deep l = fold-roll-BTypeTree ℕ ℕ ℕ atype_depth btype_depth type_depth l

pub btype_is : (l : BLayer) → is_btype (roll-BTypeTree l) ≡ is_atype l.first && all_of (map is_atype l.rest)
btype_is l = fold-roll-BTypeTree Bool Bool Bool atype_formed btype_formed type_formed l

pub type_spelled : (l : Layer) →
    spelling_type (roll-TypeTree l) ≡ spelling_btype l.first ++ flat_map (λ x. t.Arrow ∷ spelling_btype x) l.rest
type_spelled l =
    fold-roll-TypeTree (List Terminal) (List Terminal) (List Terminal) atype_tokens btype_tokens type_tokens l
    ∙ ap (λ xs. spelling_btype l.first ++ xs) (flat_map-map (λ x. t.Arrow ∷ x) spelling_btype l.rest)

pub length_of_map : {A B : Type 0} (f : A → B) (xs : List A) → length (map f xs) ≡ length xs
length_of_map f [] = refl
length_of_map f (x ∷ xs) = ap suc (length_of_map f xs)

pub type_deep : (l : Layer) →
    depth_of_type (roll-TypeTree l) ≡ max (depth_of_btype l.first) (deepest (map depth_of_btype l.rest)) + length l.rest
type_deep l =
    fold-roll-TypeTree ℕ ℕ ℕ atype_depth btype_depth type_depth l
    ∙ ap (λ n. max (depth_of_btype l.first) (deepest (map depth_of_btype l.rest)) + n)
    (length_of_map depth_of_btype l.rest)

pub type_is : (l : Layer) → is_type (roll-TypeTree l) ≡ is_btype l.first && all_of (map is_btype l.rest)
type_is l = fold-roll-TypeTree Bool Bool Bool atype_formed btype_formed type_formed l

-- the first token
atype_starts_layer : (l : ALayer) → begins starts_atype
    (atype_tokens (map-ATypeTree _ _ _ _ _ _ spelling_atype spelling_btype spelling_type l)) ≡ true
atype_starts_layer (ATypeTree-F.Con x) = refl
atype_starts_layer ATypeTree-F.Unit = refl
atype_starts_layer ATypeTree-F.ListCon = refl
atype_starts_layer ATypeTree-F.ArrowCon = refl
atype_starts_layer (ATypeTree-F.TupleCon x) = refl
atype_starts_layer (ATypeTree-F.Var x) = refl
atype_starts_layer (ATypeTree-F.Parts x y) = refl
atype_starts_layer (ATypeTree-F.List x) = refl

pub atype_starts : (x : ATypeTree) → begins starts_atype (spelling_atype x) ≡ true
atype_starts x =
    subst (λ y. begins starts_atype (spelling_atype y) ≡ true) (roll-out-ATypeTree x)
    (ap (begins starts_atype) (atype_spelled (out-ATypeTree x)) ∙ atype_starts_layer (out-ATypeTree x))

pub btype_starts : (x : BTypeTree) → begins starts_atype (spelling_btype x) ≡ true
btype_starts x =
    subst (λ y. begins starts_atype (spelling_btype y) ≡ true) (roll-out-BTypeTree x)
    (ap (begins starts_atype) (btype_spelled (out-BTypeTree x))
    ∙ begins_append starts_atype (spelling_atype (out-BTypeTree x).first) _ (atype_starts (out-BTypeTree x).first))

pub type_starts : (x : TypeTree) → begins starts_atype (spelling_type x) ≡ true
type_starts x =
    subst (λ y. begins starts_atype (spelling_type y) ≡ true) (roll-out-TypeTree x)
    (ap (begins starts_atype) (type_spelled (out-TypeTree x))
    ∙ begins_append starts_atype (spelling_btype (out-TypeTree x).first) _ (btype_starts (out-TypeTree x).first))
