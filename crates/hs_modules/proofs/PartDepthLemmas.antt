-- The depths of the extents of types, kinds and patterns are those by which trees are read.
use Rattle.std.proofs.Common.{◌≡◌, ℕ, suc, ◌+◌, List, [], ◌∷◌, length, refl, ap, sym, ◌∙◌, subst}
use Rattle.std.specs.Prelude.{map, max}
use Rattle.hs_forms.specs.Limits.{deepest}
use Rattle.hs_trees.specs.Types.{atype_depth, btype_depth, type_depth, depth_of_atype, depth_of_btype, depth_of_type}
use Rattle.hs_trees.specs.Kinds.{akind_depth, kind_depth, depth_of_akind, depth_of_kind}
use Rattle.hs_trees.specs.Patterns.{apat_depth, lpat_depth, op_depth, pat_depth, depth_of_apat, depth_of_lpat}
use Rattle.hs_trees.specs.Patterns.{depth_of_op, depth_of_pat}
use Rattle.hs_modules.specs.Extents.{Extent, depth_of}
use Rattle.hs_modules.specs.PartExtents.{atype_extent, btype_extent, type_extent, akind_extent, kind_extent}
use Rattle.hs_modules.specs.PartExtents.{apat_extent, lpat_extent, op_lpat_extent, pat_extent, extent_of_atype}
use Rattle.hs_modules.specs.PartExtents.{extent_of_btype, extent_of_type, extent_of_akind, extent_of_kind}
use Rattle.hs_modules.specs.PartExtents.{extent_of_apat, extent_of_lpat, extent_of_op_lpat, extent_of_pat}
use Rattle.hs_trees.specs.declared.types.ATypeTree.{ATypeTree, ATypeTree-F, map-ATypeTree, fold-roll-ATypeTree}
use Rattle.hs_trees.specs.declared.types.BTypeTree.{BTypeTree, BTypeTree-F, map-BTypeTree, fold-roll-BTypeTree}
use Rattle.hs_trees.specs.declared.types.TypeTree.{TypeTree, TypeTree-F, map-TypeTree, fold-roll-TypeTree, ind-TypeTree}
use Rattle.hs_trees.specs.declared.types.AKindTree.{AKindTree, AKindTree-F, map-AKindTree, fold-roll-AKindTree}
use Rattle.hs_trees.specs.declared.types.KindTree.{KindTree, KindTree-F, map-KindTree, fold-roll-KindTree, ind-KindTree}
use Rattle.hs_trees.specs.declared.patterns.APatTree.{APatTree, APatTree-F, map-APatTree, fold-roll-APatTree}
use Rattle.hs_trees.specs.declared.patterns.LPatTree.{LPatTree, LPatTree-F, map-LPatTree, fold-roll-LPatTree}
use Rattle.hs_trees.specs.declared.patterns.OpLPat.{OpLPat, OpLPat-F, map-OpLPat, fold-roll-OpLPat}
use Rattle.hs_trees.specs.declared.patterns.PatTree.{PatTree, PatTree-F, map-PatTree, fold-roll-PatTree, ind-PatTree}

-- the trees whose extents have these depths
abbrev Deep : {X : Type 0} → (X → Extent) → (X → ℕ) → Type 0
Deep {X} f g = (x : X) × ((f x).depth ≡ g x)

all_deep : {X : Type 0} (f : X → Extent) (g : X → ℕ) (ys : List (Deep f g)) →
    deepest (map depth_of (map f (map (λ y. y.0) ys))) ≡ deepest (map g (map (λ y. y.0) ys))
all_deep f g [] = refl
all_deep f g (y ∷ ys) = λ i. max (y.1 i) (all_deep f g ys i)

same_length : {X : Type 0} (f : X → Extent) (g : X → ℕ) (xs : List X) → length (map f xs) ≡ length (map g xs)
same_length f g [] = refl
same_length f g (x ∷ xs) = ap suc (same_length f g xs)

-- a first tree and those behind it
chain_deep : {X Y : Type 0} (f : X → Extent) (g : X → ℕ) (h : Y → Extent) (k : Y
    → ℕ) (y : Deep f g) (ys : List (Deep h k)) →
    max (f y.0).depth (deepest (map depth_of (map h (map (λ z. z.0) ys)))) ≡ max (g y.0)
    (deepest (map k (map (λ z. z.0) ys)))
chain_deep f g h k y ys = λ i. max (y.1 i) (all_deep h k ys i)

abbrev SA : Type 0
SA = Deep extent_of_atype depth_of_atype

abbrev SB : Type 0
SB = Deep extent_of_btype depth_of_btype

abbrev ST : Type 0
ST = Deep extent_of_type depth_of_type

atype_step : (y : ATypeTree-F SA SB ST) →
    (atype_extent (map-ATypeTree _ _ _ _ _ _ extent_of_atype extent_of_btype extent_of_type
    (map-ATypeTree SA SB ST _ _ _ (λ e. e.0) (λ e. e.0) (λ e. e.0) y))).depth
    ≡ atype_depth (map-ATypeTree _ _ _ _ _ _ depth_of_atype depth_of_btype depth_of_type
    (map-ATypeTree SA SB ST _ _ _ (λ e. e.0) (λ e. e.0) (λ e. e.0) y))
atype_step (ATypeTree-F.Con name) = refl
atype_step ATypeTree-F.Unit = refl
atype_step ATypeTree-F.ListCon = refl
atype_step ATypeTree-F.ArrowCon = refl
atype_step (ATypeTree-F.TupleCon commas) = refl
atype_step (ATypeTree-F.Var name) = refl
atype_step (ATypeTree-F.Parts first rest) = ap (λ n. n + 1)
    (chain_deep extent_of_type depth_of_type extent_of_type depth_of_type first rest)
atype_step (ATypeTree-F.List inner) = ap (λ n. n + 1) inner.1

pub type_depth_is : (t : TypeTree) → (extent_of_type t).depth ≡ depth_of_type t
type_depth_is = ind-TypeTree
    (λ x. (extent_of_atype x).depth ≡ depth_of_atype x) (λ x. (extent_of_btype x).depth ≡ depth_of_btype x)
    (λ x. (extent_of_type x).depth ≡ depth_of_type x)
    (λ x y is. ap depth_of (fold-roll-ATypeTree Extent Extent Extent atype_extent btype_extent type_extent x)
    ∙ subst (λ l. (atype_extent (map-ATypeTree _ _ _ _ _ _ extent_of_atype extent_of_btype extent_of_type l)).depth
    ≡ atype_depth (map-ATypeTree _ _ _ _ _ _ depth_of_atype depth_of_btype depth_of_type l)) is (atype_step y)
    ∙ sym (fold-roll-ATypeTree ℕ ℕ ℕ atype_depth btype_depth type_depth x))
    (λ x y is. ap depth_of (fold-roll-BTypeTree Extent Extent Extent atype_extent btype_extent type_extent x)
    ∙ subst (λ l. max (extent_of_atype l.first).depth (deepest (map depth_of (map extent_of_atype l.rest)))
    ≡ max (depth_of_atype l.first) (deepest (map depth_of_atype l.rest))) is
    (chain_deep extent_of_atype depth_of_atype extent_of_atype depth_of_atype y.first y.rest)
    ∙ sym (fold-roll-BTypeTree ℕ ℕ ℕ atype_depth btype_depth type_depth x))
    (λ x y is. ap depth_of (fold-roll-TypeTree Extent Extent Extent atype_extent btype_extent type_extent x)
    ∙ subst (λ l. max (extent_of_btype l.first).depth (deepest (map depth_of (map extent_of_btype l.rest))) + length
    (map extent_of_btype l.rest)
    ≡ max (depth_of_btype l.first) (deepest (map depth_of_btype l.rest)) + length (map depth_of_btype l.rest)) is
    (λ i. chain_deep extent_of_btype depth_of_btype extent_of_btype depth_of_btype y.first y.rest i
    + same_length extent_of_btype depth_of_btype (map (λ e. e.0) y.rest) i)
    ∙ sym (fold-roll-TypeTree ℕ ℕ ℕ atype_depth btype_depth type_depth x))

abbrev SK : Type 0
SK = Deep extent_of_akind depth_of_akind

abbrev SC : Type 0
SC = Deep extent_of_kind depth_of_kind

akind_step : (y : AKindTree-F SK SC) →
    (akind_extent (map-AKindTree _ _ _ _ extent_of_akind extent_of_kind
    (map-AKindTree SK SC _ _ (λ e. e.0) (λ e. e.0) y))).depth
    ≡ akind_depth (map-AKindTree _ _ _ _ depth_of_akind depth_of_kind (map-AKindTree SK SC _ _ (λ e. e.0) (λ e. e.0) y))
akind_step AKindTree-F.Star = refl
akind_step (AKindTree-F.Parens inner) = ap (λ n. n + 1) inner.1

pub kind_depth_is : (t : KindTree) → (extent_of_kind t).depth ≡ depth_of_kind t
kind_depth_is = ind-KindTree (λ x. (extent_of_akind x).depth ≡ depth_of_akind x)
    (λ x. (extent_of_kind x).depth ≡ depth_of_kind x)
    (λ x y is. ap depth_of (fold-roll-AKindTree Extent Extent akind_extent kind_extent x)
    ∙ subst (λ l. (akind_extent (map-AKindTree _ _ _ _ extent_of_akind extent_of_kind l)).depth
    ≡ akind_depth (map-AKindTree _ _ _ _ depth_of_akind depth_of_kind l)) is (akind_step y)
    ∙ sym (fold-roll-AKindTree ℕ ℕ akind_depth kind_depth x))
    (λ x y is. ap depth_of (fold-roll-KindTree Extent Extent akind_extent kind_extent x)
    ∙ subst (λ l. max (extent_of_akind l.first).depth (deepest (map depth_of (map extent_of_akind l.rest))) + length
    (map extent_of_akind l.rest)
    ≡ max (depth_of_akind l.first) (deepest (map depth_of_akind l.rest)) + length (map depth_of_akind l.rest)) is
    (λ i. chain_deep extent_of_akind depth_of_akind extent_of_akind depth_of_akind y.first y.rest i
    + same_length extent_of_akind depth_of_akind (map (λ e. e.0) y.rest) i)
    ∙ sym (fold-roll-KindTree ℕ ℕ akind_depth kind_depth x))

abbrev SP : Type 0
SP = Deep extent_of_apat depth_of_apat

abbrev SL : Type 0
SL = Deep extent_of_lpat depth_of_lpat

abbrev SO : Type 0
SO = Deep extent_of_op_lpat depth_of_op

abbrev SW : Type 0
SW = Deep extent_of_pat depth_of_pat

apat_step : (y : APatTree-F SP SL SO SW) →
    (apat_extent (map-APatTree _ _ _ _ _ _ _ _ extent_of_apat extent_of_lpat extent_of_op_lpat extent_of_pat
    (map-APatTree SP SL SO SW _ _ _ _ (λ e. e.0) (λ e. e.0) (λ e. e.0) (λ e. e.0) y))).depth
    ≡ apat_depth (map-APatTree _ _ _ _ _ _ _ _ depth_of_apat depth_of_lpat depth_of_op depth_of_pat
    (map-APatTree SP SL SO SW _ _ _ _ (λ e. e.0) (λ e. e.0) (λ e. e.0) (λ e. e.0) y))
apat_step (APatTree-F.Var name) = refl
apat_step (APatTree-F.As name part) = ap (λ n. n + 1) part.1
apat_step APatTree-F.Wild = refl
apat_step (APatTree-F.Con con) = refl
apat_step (APatTree-F.Literal literal) = refl
apat_step (APatTree-F.Parts first rest) = ap (λ n. n + 1)
    (chain_deep extent_of_pat depth_of_pat extent_of_pat depth_of_pat first rest)
apat_step (APatTree-F.List first rest) = ap (λ n. n + 1)
    (chain_deep extent_of_pat depth_of_pat extent_of_pat depth_of_pat first rest)
apat_step (APatTree-F.Lazy part) = ap (λ n. n + 1) part.1

lpat_step : (y : LPatTree-F SP SL SO SW) →
    (lpat_extent (map-LPatTree _ _ _ _ _ _ _ _ extent_of_apat extent_of_lpat extent_of_op_lpat extent_of_pat
    (map-LPatTree SP SL SO SW _ _ _ _ (λ e. e.0) (λ e. e.0) (λ e. e.0) (λ e. e.0) y))).depth
    ≡ lpat_depth (map-LPatTree _ _ _ _ _ _ _ _ depth_of_apat depth_of_lpat depth_of_op depth_of_pat
    (map-LPatTree SP SL SO SW _ _ _ _ (λ e. e.0) (λ e. e.0) (λ e. e.0) (λ e. e.0) y))
lpat_step (LPatTree-F.Negative text) = refl
lpat_step (LPatTree-F.Apply con first rest) = chain_deep extent_of_apat depth_of_apat extent_of_apat depth_of_apat first
    rest
lpat_step (LPatTree-F.APat part) = part.1

pub pat_depth_is : (p : PatTree) → (extent_of_pat p).depth ≡ depth_of_pat p
pat_depth_is = ind-PatTree
    (λ x. (extent_of_apat x).depth ≡ depth_of_apat x) (λ x. (extent_of_lpat x).depth ≡ depth_of_lpat x)
    (λ x. (extent_of_op_lpat x).depth ≡ depth_of_op x) (λ x. (extent_of_pat x).depth ≡ depth_of_pat x)
    (λ x y is. ap depth_of (fold-roll-APatTree Extent Extent Extent Extent apat_extent lpat_extent op_lpat_extent
    pat_extent x)
    ∙ subst (λ l. (apat_extent (map-APatTree _ _ _ _ _ _ _ _ extent_of_apat extent_of_lpat extent_of_op_lpat
    extent_of_pat l)).depth
    ≡ apat_depth (map-APatTree _ _ _ _ _ _ _ _ depth_of_apat depth_of_lpat depth_of_op depth_of_pat l)) is (apat_step y)
    ∙ sym (fold-roll-APatTree ℕ ℕ ℕ ℕ apat_depth lpat_depth op_depth pat_depth x))
    (λ x y is. ap depth_of (fold-roll-LPatTree Extent Extent Extent Extent apat_extent lpat_extent op_lpat_extent
    pat_extent x)
    ∙ subst (λ l. (lpat_extent (map-LPatTree _ _ _ _ _ _ _ _ extent_of_apat extent_of_lpat extent_of_op_lpat
    extent_of_pat l)).depth
    ≡ lpat_depth (map-LPatTree _ _ _ _ _ _ _ _ depth_of_apat depth_of_lpat depth_of_op depth_of_pat l)) is (lpat_step y)
    ∙ sym (fold-roll-LPatTree ℕ ℕ ℕ ℕ apat_depth lpat_depth op_depth pat_depth x))
    (λ x y is. ap depth_of (fold-roll-OpLPat Extent Extent Extent Extent apat_extent lpat_extent op_lpat_extent
    pat_extent x)
    ∙ subst (λ l. (extent_of_lpat l.pat).depth ≡ depth_of_lpat l.pat) is y.pat.1
    ∙ sym (fold-roll-OpLPat ℕ ℕ ℕ ℕ apat_depth lpat_depth op_depth pat_depth x))
    (λ x y is. ap depth_of (fold-roll-PatTree Extent Extent Extent Extent apat_extent lpat_extent op_lpat_extent
    pat_extent x)
    ∙ subst (λ l. max (extent_of_lpat l.first).depth (deepest (map depth_of (map extent_of_op_lpat l.rest))) + length
    (map extent_of_op_lpat l.rest)
    ≡ max (depth_of_lpat l.first) (deepest (map depth_of_op l.rest)) + length (map depth_of_op l.rest)) is
    (λ i. chain_deep extent_of_lpat depth_of_lpat extent_of_op_lpat depth_of_op y.first y.rest i
    + same_length extent_of_op_lpat depth_of_op (map (λ e. e.0) y.rest) i)
    ∙ sym (fold-roll-PatTree ℕ ℕ ℕ ℕ apat_depth lpat_depth op_depth pat_depth x))
