-- When a type expands within so many steps from one synonym to another, and what its expansion is.
use Rattle.std.specs.Prelude.{◌≡◌, ◌≤◌, ◌<◌, ◌⊎◌, ℕ, List, [], ◌∷◌, ◌++◌, map, reverse, IsSome, Some}
use Rattle.bp_base.specs.Lists.{Among}
use Rattle.bp_base.specs.declared.ty.OrigName.{OrigName}
use Rattle.bp_base.specs.declared.ty.Ty.{Ty}
use Rattle.hs_core.specs.Types.{TypeTerm, type_term, applied_to, depth, count}
use Rattle.hs_core.specs.Expansion.{Synonym, Synonyms, Expands, ExpandEach, IsFullyApplied, IsMet, LeadsTo}
use Rattle.hs_core.specs.Expansion.{IsExpandable}
use Rattle.type_expand.specs.declared.replace.ExpandError.{ExpandError}
use Rattle.type_expand.specs.declared.replace.ExpandError.TheVariants.{SynonymUse, TypeDepth, NoMemory}

-- the types of a stack, the last one first
abbrev pub stacked_types : List Ty → List TypeTerm
stacked_types ts = map type_term (reverse ts)

-- the last of the first list went behind the others of the second; there was none, or one
abbrev pub IsMoved : List Ty → List Ty → List Ty → List Ty → Type 0
IsMoved old new before after = ((old ≡ []) × (new ≡ []) × (after ≡ before))
    ⊎ ((t : Ty) × (old ≡ new ++ t ∷ []) × (after ≡ before ++ t ∷ []))

-- the type expands where it is applied to so many others, and the synonyms that are met are no more than this
pub record CanExpand (S : Synonyms) (t : TypeTerm) (given fuel : ℕ) : Type 0 where
  pub full : IsFullyApplied S t given
  pub bodies : (n : OrigName) (s : Synonym) → IsMet S t n → S n ≡ Some s → IsFullyApplied S s.body 0
  pub acyclic : (n : OrigName) → IsMet S t n → LeadsTo S n n → ⊥
  pub names : List OrigName
  pub few : count names ≤ fuel
  pub covers : (n : OrigName) → IsMet S t n → IsSome (S n) → Among n names

abbrev pub CanNotExpand : Synonyms → TypeTerm → ℕ → ℕ → Type 0
CanNotExpand S t given fuel = CanExpand S t given fuel → ⊥

-- the type, applied to any types that these are expansions of, expands to this
abbrev pub ExpandsFor : Synonyms → TypeTerm → List TypeTerm → TypeTerm → Type 0
ExpandsFor S t us v = (ts : List TypeTerm) → ExpandEach S ts us → Expands S (applied_to t ts) v

-- the expansion, no deeper than the limit
abbrev pub ExpandsWithin : Synonyms → TypeTerm → ℕ → TypeTerm → Type 0
ExpandsWithin S t limit u = Expands S t u × (depth u ≤ limit)

-- the type has no expansion; or it has one, which is deeper than the limit
abbrev pub IsExpandError : Synonyms → TypeTerm → ℕ → ExpandError → Type 0
IsExpandError S t limit SynonymUse = IsExpandable S t → ⊥
IsExpandError S t limit TypeDepth = (u : TypeTerm) × Expands S t u × (limit < depth u)
IsExpandError S t limit NoMemory = Unit {0}
