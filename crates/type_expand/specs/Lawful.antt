-- Which names are lawful synonyms (Haskell 2010 Report, section 4.2.2).
use Rattle.std.specs.Prelude.{◌≡◌, ℕ, List, [], ◌∷◌, map, take, slice_get, Option, Some, None}
use Rattle.bp_base.specs.declared.ty.OrigName.{OrigName}
use Rattle.hs_core.specs.Expansion.{Synonym, Synonyms, IsExpandable, AreLawful}
use Rattle.kind_check.specs.declared.scope.Known.{Known}

-- if the name is a synonym, its body has an expansion
abbrev pub IsLawfulName : Synonyms → OrigName → Type 0
IsLawfulName S n = (s : Synonym) → S n ≡ Some s → IsExpandable S s.body

abbrev pub AllLawful : Synonyms → List Known → Type 0
AllLawful S [] = Unit {0}
AllLawful S (e ∷ es) = IsLawfulName S e.name × AllLawful S es

abbrev pub names_of : List Known → List OrigName
names_of es = map (λ e. e.name) es

-- the entry of this index
abbrev pub IsUnlawfulEntry : Synonyms → List Known → ℕ → Type 0
IsUnlawfulEntry S es i = (e : Known) × (slice_get es i ≡ Some e) × (IsLawfulName S e.name → ⊥)

-- The names before this one are lawful, and it isn't; or all synonyms are lawful.
abbrev pub IsUnlawfulAt : Synonyms → List Known → Option ℕ → Type 0
IsUnlawfulAt S es (Some i) = AllLawful S (take i es) × IsUnlawfulEntry S es i × (AreLawful S (names_of es) → ⊥)
IsUnlawfulAt S es None = AreLawful S (names_of es)
