-- What a reference means (Haskell 2010 Report, section 5.5.2).
use Rattle.std.specs.Prelude.{◌≡◌, ◌⊎◌, Bool, true, false, not, ◌&&◌, List, [], ◌∷◌, filter, Option, Some, None}
use Rattle.std.specs.Prelude.{if◌then◌else◌}
use Rattle.std.specs.Str.{bytes_eq}
use Rattle.bp_base.specs.Texts.{Text}
use Rattle.bp_checks.specs.Check.{Check}
use Rattle.bp_base.specs.Entities.{default_fixity}
use Rattle.bp_base.specs.declared.ty.Space.{Space}
use Rattle.bp_base.specs.declared.ty.Space.TheVariants.{Types, Values}
use Rattle.bp_base.specs.declared.ty.OrigName.{OrigName}
use Rattle.bp_base.specs.declared.entity.Con.{Con}
use Rattle.bp_base.specs.declared.entity.Fixity.{Fixity}
use Rattle.bp_base.specs.declared.entity.Entity.{Entity}
use Rattle.bp_base.specs.declared.entity.Entity.TheVariants.{Abstract, DataType, Synonym, Value}
use Rattle.hs_scopes.specs.declared.scope.ScopeItem.{ScopeItem}
use Rattle.hs_scopes.specs.Words.{Word, word_of, is_empty}
use Rattle.hs_scopes.specs.declared.scope.MeaningFault.{MeaningFault}
use Rattle.hs_scopes.specs.declared.scope.MeaningFault.TheVariants.{NotInScope, AmbiguousName}

abbrev pub name_of : Entity → OrigName
name_of (Abstract n k) = n
name_of (DataType n k p w cs) = n
name_of (Synonym n k p t) = n
name_of (Value n t f) = n

abbrev pub is_types : Space → Bool
is_types Types = true
is_types Values = false

-- the original name that an item means: of its entity, or of the constructor at the entity's module
abbrev pub meant_by : Text → OrigName → OrigName
meant_by [] n = n
meant_by (b ∷ bs) n = record { at = n.at; space = Values; occ = b ∷ bs }

abbrev pub meaning_of : ScopeItem → OrigName
meaning_of i = meant_by i.con (name_of i.entity)

-- whether an item is the name of a type
abbrev pub is_type_item : ScopeItem → Bool
is_type_item i = is_empty i.con && is_types (name_of i.entity).space

abbrev pub is_in : Space → ScopeItem → Bool
is_in Types i = is_type_item i
is_in Values i = not (is_type_item i)

abbrev pub is_named : Space → Word → ScopeItem → Bool
is_named space w i = is_in space i && bytes_eq i.qualifier w.qualifier && bytes_eq i.occ w.occ

-- the items that a written name may mean
abbrev pub candidates : List ScopeItem → Space → Word → List ScopeItem
candidates items space w = filter (is_named space w) items

-- the first of them; where they all mean one thing, it is what the name means
abbrev pub first_of_all : List ScopeItem → Option ScopeItem
first_of_all [] = None
first_of_all (i ∷ is) = Some i

abbrev pub item_of : List ScopeItem → Space → Word → Option ScopeItem
item_of items space w = first_of_all (candidates items space w)

abbrev pub meaning_or : Option ScopeItem → Option OrigName
meaning_or None = None
meaning_or (Some i) = Some (meaning_of i)

abbrev pub meaning : List ScopeItem → Space → Word → Option OrigName
meaning items space w = meaning_or (item_of items space w)

-- they all mean this
abbrev pub AllMean : OrigName → List ScopeItem → Type 0
AllMean n [] = Unit {0}
AllMean n (i ∷ is) = (meaning_of i ≡ n) × AllMean n is

-- one of them means something else
abbrev pub OneMeansAnother : OrigName → List ScopeItem → Type 0
OneMeansAnother n [] = ⊥
OneMeansAnother n (i ∷ is) = (meaning_of i ≡ n → ⊥) ⊎ OneMeansAnother n is

abbrev pub IsMeant : List ScopeItem → OrigName → Type 0
IsMeant [] n = ⊥
IsMeant (i ∷ is) n = (n ≡ meaning_of i) × AllMean (meaning_of i) is

abbrev pub IsRefusedName : List ScopeItem → MeaningFault → Type 0
IsRefusedName [] r = r ≡ NotInScope
IsRefusedName (i ∷ is) r = OneMeansAnother (meaning_of i) is × (r ≡ AmbiguousName)

-- A name means the only thing that it may mean. Where it may mean nothing it is not in scope, and where it may mean
-- different things it is ambiguous.
abbrev pub name_meant : List ScopeItem → Space → Text → Check OrigName MeaningFault
name_meant items space name = record {
  passes = IsMeant (candidates items space (word_of name));
  fails = IsRefusedName (candidates items space (word_of name));
}

-- ---- fixities

abbrev pub con_fixity : Text → List Con → Fixity
con_fixity x [] = default_fixity
con_fixity x (c ∷ cs) = if bytes_eq c.occ x then c.fixity else con_fixity x cs

abbrev pub fixity_in : Text → Entity → Fixity
fixity_in x (Abstract n k) = default_fixity
fixity_in x (DataType n k p w cs) = con_fixity x cs
fixity_in x (Synonym n k p t) = default_fixity
fixity_in x (Value n t f) = f

abbrev pub fixity_of_item : Option ScopeItem → Fixity
fixity_of_item None = default_fixity
fixity_of_item (Some i) = fixity_in i.con i.entity
