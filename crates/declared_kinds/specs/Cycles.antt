-- Which synonyms lead to themselves through synonyms alone (Haskell 2010 Report, section 4.2.2).
use Rattle.std.specs.Prelude.{◌≡◌, ◌⊎◌, ℕ, List, [], ◌∷◌, Option, Some, None, map, flat_map}
use Rattle.bp_base.specs.Lists.{Among}
use Rattle.hs_core.specs.Types.{TypeTerm}
use Rattle.hs_core.specs.Kinds.{TypeDecl, Meaning, fields, synonym}
use Rattle.hs_core.specs.Groups.{AreGroups, Reaches, uses_at}
use Rattle.hs_core.specs.WellTyped.{number_of, numbers_once, names_in, type_uses}
use Rattle.hs_core.specs.declared.group.UseList.{UseList}
use Rattle.kind_check.specs.declared.scope.GroupDecl.{GroupDecl}
use Rattle.kind_check.specs.Scopes.{meaning_of}
use Rattle.hs_core.specs.declared.group.IndexGroup.{IndexGroup}

-- the first item of a list for which the fact fails
abbrev pub IsFirstBad : {A : Type 0} → (A → Type 0) → List A → A → Type 0
IsFirstBad Good [] x = ⊥
IsFirstBad Good (y ∷ ys) x = ((y ≡ x) × (Good y → ⊥)) ⊎ (Good y × IsFirstBad Good ys x)

-- the types that a synonym stands for
abbrev pub synonym_types : Meaning → List TypeTerm
synonym_types (fields ts) = []
synonym_types (synonym t) = t ∷ []

-- Use lists of synonyms: each has the numbers of the declarations that its body mentions, and a data type has none.
abbrev pub synonym_uses : List TypeDecl → List UseList
synonym_uses ds = map
    (λ d. record { uses = numbers_once (flat_map (number_of 0 ds) (flat_map names_in (synonym_types d.meaning))) }) ds

-- the use list of a declaration that is a synonym
abbrev pub synonym_use : List TypeDecl → GroupDecl → UseList
synonym_use ds d = record {
  uses = numbers_once (flat_map (number_of 0 ds) (flat_map names_in (synonym_types (meaning_of d.params d.says))));
}

-- uses lead from the number to itself
abbrev pub IsOnCycle : List UseList → ℕ → Type 0
IsOnCycle g i = (w : ℕ) × Among w (uses_at g i) × Reaches g w i

-- the declaration of this number is no synonym that leads to itself
abbrev pub IsOffCycle : List TypeDecl → ℕ → Type 0
IsOffCycle ds i = IsOnCycle (synonym_uses ds) i → ⊥

-- numbers group after group, those of a group in the order of the source
abbrev pub in_groups : List IndexGroup → List ℕ
in_groups order = flat_map (λ g. g.members) order

-- The number of the first synonym that leads to itself, in the order of the dependency groups and in a group in that of
-- the source; or there is none.
abbrev pub IsFirstOnCycle : List TypeDecl → Option ℕ → Type 0
IsFirstOnCycle ds (Some i) = (order : List IndexGroup) × AreGroups (type_uses ds) order
    × IsFirstBad (IsOffCycle ds) (in_groups order) i
IsFirstOnCycle ds None = (order : List IndexGroup) × AreGroups (type_uses ds) order
    × ((i : ℕ) → Among i (in_groups order) → IsOffCycle ds i)
