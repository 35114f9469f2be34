-- What a name may mean, by its occurrence (Haskell 2010 Report, section 5.5.2).
use Rattle.std.specs.Prelude.{◌≡◌, ℕ, Bool, ◌&&◌, List, [], ◌∷◌, map, unwrap_or, Option, Some, None}
use Rattle.std.specs.Prelude.{Result, Ok, Err}
use Rattle.std.specs.Prelude.{if◌then◌else◌}
use Rattle.std.specs.List.{filter}
use Rattle.std.specs.HashMap.{HashMap, get}
use Rattle.std.specs.Str.{bytes_eq}
use Rattle.bp_base.specs.Texts.{Text}
use Rattle.bp_base.specs.declared.ty.Space.{Space}
use Rattle.hs_core.specs.Sameness.{same_original, same_space}
use Rattle.hs_scopes.specs.declared.scope.ScopeItem.{ScopeItem}
use Rattle.hs_scopes.specs.declared.scope.MeaningFault.{MeaningFault}
use Rattle.hs_scopes.specs.declared.scope.MeaningFault.TheVariants.{NotInScope, AmbiguousName}
use Rattle.hs_scopes.specs.Meanings.{meaning_of, fixity_in}
use Rattle.scope_table.specs.declared.candidate.Candidate.{Candidate}
use Rattle.scope_table.specs.declared.table.ScopeTable.{ScopeTable}

-- what an item means
abbrev pub candidate_of : ScopeItem → Candidate
candidate_of i = record { qualifier = i.qualifier; name = meaning_of i; fixity = fixity_in i.con i.entity }

-- what the items of an occurrence mean
abbrev pub candidates_of : List ScopeItem → Text → List Candidate
candidates_of items x = map candidate_of (filter (λ i. bytes_eq i.occ x) items)

-- what a table says of an occurrence
abbrev pub candidates_at : {S : Type 0} → HashMap (List ℕ) (List Candidate) S → Text → List Candidate
candidates_at table x = unwrap_or (get bytes_eq table x) []

-- what the table of a scope says of an occurrence
abbrev pub says : ScopeTable → Text → List Candidate
says t x = candidates_at t.names x

-- behind this qualifier, and a type or a value as it is asked
abbrev pub is_candidate : Space → Text → Candidate → Bool
is_candidate space q c = same_space space c.name.space && bytes_eq c.qualifier q

-- the first of those that are asked for, where they are one thing, and where this one was found before
abbrev pub chosen_from : Option Candidate → List Candidate → Result Candidate MeaningFault
chosen_from None [] = Err NotInScope
chosen_from (Some c) [] = Ok c
chosen_from None (d ∷ ds) = chosen_from (Some d) ds
chosen_from (Some c) (d ∷ ds) = if same_original c.name d.name then chosen_from (Some c) ds else Err AmbiguousName

abbrev pub chosen : Space → Text → Option Candidate → List Candidate → Result Candidate MeaningFault
chosen space q found cs = chosen_from found (filter (is_candidate space q) cs)

-- an answer that is lent is the one that is meant, and so is a refusal
abbrev pub Chooses : {X : Type 0} → (X → Candidate) → Result Candidate MeaningFault → Result X MeaningFault → Type 0
Chooses at meant (Ok x) = meant ≡ Ok (at x)
Chooses at meant (Err e) = meant ≡ Err e
