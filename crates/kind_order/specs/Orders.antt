-- Groups of type declarations in an order, each with its least kinds over the names of those before it (Haskell 2010
-- Report, section 4.6).
use Rattle.std.specs.Prelude.{◌≡◌, ◌⊎◌, ◌↔◌, List, [], ◌∷◌, ◌++◌, map, Some}
use Rattle.bp_base.specs.Texts.{Text}
use Rattle.bp_base.specs.declared.ty.OrigName.{OrigName}
use Rattle.bp_base.specs.declared.ty.Kind.{Kind}
use Rattle.hs_core.specs.Types.{KindTerm, kind_term}
use Rattle.hs_core.specs.Kinds.{NameKinds, within_group, AreLeastKinds}
use Rattle.kind_check.specs.declared.scope.Known.{Known}
use Rattle.kind_check.specs.declared.scope.GroupDecl.{GroupDecl}
use Rattle.kind_check.specs.declared.group.TypeGroup.{TypeGroup}
use Rattle.kind_check.specs.declared.group.KindEnv.{KindEnv}
use Rattle.kind_check.specs.declared.group.GroupError.{GroupError}
use Rattle.kind_check.specs.declared.group.GroupError.TheVariants as why
use Rattle.kind_check.specs.Scopes.{decls_of, known_names, sense_kind}
use Rattle.kind_check.specs.Walks.{HasNoKinding}
use Rattle.kind_check.specs.Answers.{IsFirst}
use Rattle.kind_order.specs.declared.order.GroupKinds.{GroupKinds}

-- these are the declarations' names with these kinds
abbrev pub IsNamed : List GroupDecl → List Kind → List Known → Type 0
IsNamed [] ks es = es ≡ []
IsNamed (d ∷ ds) [] es = ⊥
IsNamed (d ∷ ds) (k ∷ ks) [] = ⊥
IsNamed (d ∷ ds) (k ∷ ks) (e ∷ es) = (e.name ≡ d.name) × (sense_kind e.sense ≡ Some (kind_term k)) × IsNamed ds ks es

-- the names with those of a group and its kinds in front
abbrev pub with_group : NameKinds → TypeGroup → GroupKinds → NameKinds
with_group names g ks = within_group names (decls_of g.decls) (map kind_term ks.kinds)

-- the least kinds of a group
abbrev pub AreKindsOf : NameKinds → TypeGroup → GroupKinds → Type 0
AreKindsOf names g ks = AreLeastKinds names (decls_of g.decls) (map kind_term ks.kinds)

-- the group's kinds joined those so far, and its names stand in front
pub record Follows (names : NameKinds) (g : TypeGroup) (env : KindEnv) (old new : List GroupKinds) : Type 0 where
  pub next : GroupKinds
  pub more : new ≡ old ++ next ∷ []
  pub least : AreKindsOf names g next
  pub front : (n : OrigName) (k : KindTerm) → known_names env.names n k ↔ with_group names g next n k

-- group after group, each has its least kinds where those before it have theirs
abbrev pub Kinded : NameKinds → List TypeGroup → List GroupKinds → Type 0
Kinded names [] kss = kss ≡ []
Kinded names (g ∷ gs) [] = ⊥
Kinded names (g ∷ gs) (ks ∷ kss) = AreKindsOf names g ks × Kinded (with_group names g ks) gs kss

-- the groups before have their kinds, this one has none, and the name is that of its first declaration
abbrev pub IllAt : NameKinds → List TypeGroup → Text → Type 0
IllAt names [] x = ⊥
IllAt names (g ∷ gs) x = (HasNoKinding names (decls_of g.decls) × IsFirst g.decls x)
    ⊎ ((ks : GroupKinds) × AreKindsOf names g ks × IllAt (with_group names g ks) gs x)

abbrev pub IsOrderError : NameKinds → List TypeGroup → GroupError → Type 0
IsOrderError names gs (why.Kind x) = IllAt names gs x
IsOrderError names gs why.NoMemory = Unit {0}
