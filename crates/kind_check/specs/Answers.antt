-- What refusals of kinds say.
use Rattle.std.specs.Prelude.{◌≡◌, ℕ, List, [], ◌∷◌, Option, Some, None, if◌then◌else◌}
use Rattle.bp_base.specs.Texts.{Text}
use Rattle.hs_core.specs.Types.{KindTerm, TypeTerm, count, type_term, written_term, variables}
use Rattle.hs_core.specs.Kinds.{NameKinds, HasKind, kind_at, AllBelow, Below, IsKindOf}
use Rattle.hs_core.specs.Expansion.{Synonym, Synonyms, IsFullyApplied}
use Rattle.hs_core.specs.Sameness.{same_original}
use Rattle.hs_core.specs.declared.tree.Written.{Written}
use Rattle.kind_check.specs.declared.scope.GroupDecl.{GroupDecl}
use Rattle.kind_check.specs.declared.group.GroupError.{GroupError}
use Rattle.kind_check.specs.declared.group.GroupError.TheVariants.{Kind, NoMemory}
use Rattle.kind_check.specs.declared.scope.Known.{Known}
use Rattle.kind_check.specs.declared.scope.Sense.{Sense}
use Rattle.kind_check.specs.declared.scope.Sense.TheVariants.{TypeOf, SynonymOf, Other}
use Rattle.kind_check.specs.declared.written.TypeError.{TypeError}
use Rattle.kind_check.specs.declared.written.TypeError.TheVariants as why
use Rattle.kind_check.specs.Scopes.{decls_of, known_names}
use Rattle.kind_check.specs.Walks.{HasNoKinding}

-- the occurrence of the first declaration
abbrev pub IsFirst : List GroupDecl → Text → Type 0
IsFirst [] x = ⊥
IsFirst (d ∷ ds) x = d.name.occ ≡ x

-- no kinding of the group is valid, and its first declaration is named
abbrev pub IsGroupError : NameKinds → List GroupDecl → GroupError → Type 0
IsGroupError names ds (Kind occ) = HasNoKinding names (decls_of ds) × IsFirst ds occ
IsGroupError names ds NoMemory = Unit {0}

-- ---- written types

-- the synonym that a meaning is
abbrev pub sense_synonym : Sense → Option Synonym
sense_synonym (TypeOf k) = None
sense_synonym (SynonymOf k p b) = Some (record { params = p; body = type_term b })
sense_synonym Other = None

-- which names are synonyms: of several meanings of a name the first counts
abbrev pub known_synonyms : List Known → Synonyms
known_synonyms [] n = None
known_synonyms (e ∷ es) n = if same_original e.name n then sense_synonym e.sense else known_synonyms es n

-- the synonym has so many parameters
abbrev pub HasParams : Option Synonym → ℕ → Type 0
HasParams None p = ⊥
HasParams (Some s) p = s.params ≡ p

-- the type has no kind, whatever kinds its variables, so many, have
abbrev pub HasNoKind : NameKinds → TypeTerm → ℕ → Type 0
HasNoKind names t m = (ks : List KindTerm) (k : KindTerm) → count ks ≡ m → HasKind names (kind_at ks) t k → ⊥

-- the least kind of a type with so many variables, and theirs
pub record HasKindAlone (names : NameKinds) (t : TypeTerm) (m : ℕ) (k : KindTerm) : Type 0 where
  pub kinds : List KindTerm
  pub many : count kinds ≡ m
  pub fit : HasKind names (kind_at kinds) t k
  pub below : (js : List KindTerm) (j : KindTerm) → count js ≡ m → HasKind names (kind_at js) t j
      → AllBelow kinds js × Below k j

-- the type's synonyms are fully applied
abbrev pub IsFull : List Known → Written → Type 0
IsFull es w = IsFullyApplied (known_synonyms es) (written_term (variables w) w) 0

-- the type has the kind, and its synonyms are fully applied
abbrev pub IsKindAndFull : List Known → Written → KindTerm → Type 0
IsKindAndFull es w k = IsKindOf (known_names es) w k × IsFull es w

-- it has no kind; or it has one, and a synonym isn't fully applied
abbrev pub IsTypeError : List Known → Written → TypeError → Type 0
IsTypeError es w why.Kind = HasNoKind (known_names es) (written_term (variables w) w) (count (variables w))
IsTypeError es w why.SynonymUse = ((k : KindTerm) × IsKindOf (known_names es) w k) × (IsFull es w → ⊥)
IsTypeError es w why.NoMemory = Unit {0}
