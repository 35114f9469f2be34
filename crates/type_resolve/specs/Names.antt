-- What the table of a scope says of written names (Haskell 2010 Report, section 5.5.2).
use Rattle.std.specs.Prelude.{◌≡◌, ⊤, List, Option, Some, None, Result, Ok, Err, if◌then◌else◌}
use Rattle.bp_base.specs.Texts.{Text}
use Rattle.bp_base.specs.Lists.{is_among}
use Rattle.bp_base.specs.declared.ty.Space.{Space}
use Rattle.bp_base.specs.declared.ty.OrigName.{OrigName}
use Rattle.hs_scopes.specs.declared.scope.ScopeItem.{ScopeItem}
use Rattle.hs_scopes.specs.declared.scope.MeaningFault.{MeaningFault}
use Rattle.hs_scopes.specs.Words.{Word, word_of}
use Rattle.scope_table.specs.declared.candidate.Candidate.{Candidate}
use Rattle.scope_table.specs.declared.table.ScopeTable.{ScopeTable}
use Rattle.scope_table.specs.Candidates.{candidates_of, chosen, says}
use Rattle.name_resolve.specs.Modules.{NameFault, name_fault}
use Rattle.type_resolve.specs.declared.error.NameError.{NameError}
use Rattle.type_resolve.specs.declared.error.NameError.TheVariants as e

-- the table is that of a scope
abbrev pub IsTableOf : ScopeTable → List ScopeItem → Type 0
IsTableOf table items = (q : Text) → says table q ≡ candidates_of items q

-- ---- answers

-- what is said of an error, where it is a fault: of want of memory nothing is
abbrev pub OnFault : NameError → (NameFault → Type 0) → Type 0
OnFault (e.NotInScope name) P = P (NameFault.NotInScope name)
OnFault (e.AmbiguousName name) P = P (NameFault.AmbiguousName name)
OnFault e.NoMemory P = ⊤

-- an answer is the one that is meant, and so is a fault
abbrev pub Answers : {B : Type 0} → Result B NameFault → Result B NameError → Type 0
Answers meant (Ok b) = meant ≡ Ok b
Answers meant (Err e) = OnFault e (λ f. meant ≡ Err f)

-- the same for an answer that is lent
abbrev pub Lends : {X B : Type 0} → (X → B) → Result B NameFault → Result X NameError → Type 0
Lends at meant (Ok x) = meant ≡ Ok (at x)
Lends at meant (Err e) = OnFault e (λ f. meant ≡ Err f)

-- one after another
abbrev pub next : {A B : Type 0} → Result A NameFault → (A → Result B NameFault) → Result B NameFault
next (Ok a) f = f a
next (Err e) f = Err e

-- ---- names

abbrev pub table_says : ScopeTable → Space → Word → Result Candidate MeaningFault
table_says table space w = chosen space w.qualifier None (says table w.occ)

abbrev pub with_name : Text → Result Candidate MeaningFault → Result Candidate NameFault
with_name x (Ok c) = Ok c
with_name x (Err f) = Err (name_fault x f)

-- what a written name means by the table
abbrev pub candidate_found : ScopeTable → Space → Text → Result Candidate NameFault
candidate_found table space x = with_name x (table_says table space (word_of x))

abbrev pub meaning_found : ScopeTable → Space → Text → Result OrigName NameFault
meaning_found table space x = next (candidate_found table space x) (λ c. Ok c.name)

-- a type variable: where there is a head, it is one of the head's
abbrev pub variable_found : Option (List Text) → Text → Result Text NameFault
variable_found None x = Ok x
variable_found (Some head) x = if is_among x head then Ok x else Err (NameFault.NotInScope x)
