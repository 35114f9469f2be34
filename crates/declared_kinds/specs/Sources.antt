-- The kinds of groups, in the order in which their declarations stand in the source.
use Rattle.std.specs.Prelude.{◌≡◌, ◌⊎◌, ℕ, List, [], ◌∷◌, Option, Some, None, unwrap_or, nat_eq, map, if◌then◌else◌}
use Rattle.std.specs.Option.{option_or}
use Rattle.bp_base.specs.declared.ty.Kind.{Kind}
use Rattle.bp_base.specs.declared.ty.Kind.TheVariants.{Star}
use Rattle.bp_base.specs.Texts.{Text}
use Rattle.hs_core.specs.Types.{KindTerm, kind_term}
use Rattle.hs_core.specs.Kinds.{NameKinds, TypeDecl, AreLeastKinds, within_group}
use Rattle.hs_core.specs.Groups.{AreGroups}
use Rattle.hs_core.specs.WellTyped.{AreKinds, chosen, type_uses}
use Rattle.hs_core.specs.declared.group.IndexGroup.{IndexGroup}
use Rattle.kind_check.specs.declared.scope.GroupDecl.{GroupDecl}
use Rattle.kind_check.specs.declared.group.GroupError.{GroupError}
use Rattle.kind_check.specs.declared.group.GroupError.TheVariants as why
use Rattle.kind_check.specs.Scopes.{decls_of}
use Rattle.kind_check.specs.Walks.{HasNoKinding}
use Rattle.kind_order.specs.declared.order.GroupKinds.{GroupKinds}

-- the kind that a number has: the one that stands in the place of the number
abbrev pub kind_for : List ℕ → List Kind → ℕ → Option Kind
kind_for [] ks i = None
kind_for (m ∷ ms) [] i = None
kind_for (m ∷ ms) (k ∷ ks) i = if nat_eq m i then Some k else kind_for ms ks i

abbrev pub kind_in_groups : List IndexGroup → List GroupKinds → ℕ → Option Kind
kind_in_groups [] kss i = None
kind_in_groups (g ∷ gs) [] i = None
kind_in_groups (g ∷ gs) (ks ∷ kss) i = option_or (kind_for g.members ks.kinds i) (kind_in_groups gs kss i)

-- the kind of the declaration of this number
abbrev pub source_kind : List IndexGroup → List GroupKinds → ℕ → Kind
source_kind order kss i = unwrap_or (kind_in_groups order kss i) Star

-- the kinds of type declarations, in their order
abbrev pub AreSourceKinds : NameKinds → List GroupDecl → List Kind → Type 0
AreSourceKinds names ds ks = AreKinds names (decls_of ds) (map kind_term ks)

-- the name is that of the first declaration
abbrev pub IsFirstName : List TypeDecl → Text → Type 0
IsFirstName [] x = ⊥
IsFirstName (d ∷ ds) x = d.name.occ ≡ x

-- the groups before have their least kinds, this one has no kinds, and the name is that of its first declaration
abbrev pub IsIllIn : NameKinds → List TypeDecl → List IndexGroup → Text → Type 0
IsIllIn names ds [] x = ⊥
IsIllIn names ds (g ∷ gs) x = (HasNoKinding names (chosen ds g.members) × IsFirstName (chosen ds g.members) x)
    ⊎ ((ks : List KindTerm) × AreLeastKinds names (chosen ds g.members) ks
    × IsIllIn (within_group names (chosen ds g.members) ks) ds gs x)

-- the first group of type declarations that has no kinds, where those before it have theirs, begins with this name
abbrev pub IsIllKinded : NameKinds → List TypeDecl → Text → Type 0
IsIllKinded names ds x = (order : List IndexGroup) × AreGroups (type_uses ds) order × IsIllIn names ds order x

abbrev pub IsSourceError : NameKinds → List GroupDecl → GroupError → Type 0
IsSourceError names ds (why.Kind x) = IsIllKinded names (decls_of ds) x
IsSourceError names ds why.NoMemory = Unit {0}
