-- When what a module exports matches an entry of a signature (Kilpatrick and others, POPL 2014; Yang's thesis), without
-- subsumption: types match where they are equal. The types of both are expanded, and the entry is read through the
-- filling modules.
use Rattle.std.specs.Prelude.{◌≡◌, ◌⊎◌, ℕ, suc, nat_eq, Bool, ◌&&◌, List, [], ◌∷◌, ◌++◌, Option, Some, None, map}
use Rattle.std.specs.Prelude.{if◌then◌else◌}
use Rattle.std.specs.List.{list_any}
use Rattle.std.specs.Str.{bytes_eq}
use Rattle.bp_base.specs.Texts.{Text}
use Rattle.bp_base.specs.declared.ty.OrigName.{OrigName}
use Rattle.bp_base.specs.declared.entity.Fixity.{Fixity}
use Rattle.bp_base.specs.declared.entity.Con.{Con}
use Rattle.bp_base.specs.declared.entity.Entity.{Entity}
use Rattle.bp_base.specs.declared.entity.Entity.TheVariants.{Abstract, DataType, Synonym, Value}
use Rattle.bp_base.specs.declared.entity.Export.{Export}
use Rattle.type_terms.specs.Terms.{var, con, app, applied}
use Rattle.hs_core.specs.Sameness.{same_space}
use Rattle.hs_core.specs.declared.why.Why.{Why}
use Rattle.hs_core.specs.declared.why.Why.TheVariants as w
use Rattle.hs_core.specs.Types.{KindTerm, TypeTerm, kind_term, type_term}

abbrev pub entity_name : Entity → OrigName
entity_name (Abstract n k) = n
entity_name (DataType n k p new cs) = n
entity_name (Synonym n k p b) = n
entity_name (Value n c f) = n

-- What a module exports for an entry of a signature: of its space and its name. Of two exports of one name the first
-- counts.
abbrev pub exported_for : Entity → List Export → Option Export
exported_for e [] = None
exported_for e (x ∷ xs) =
    if bytes_eq x.occ (entity_name e).occ && same_space (entity_name x.entity).space
    (entity_name e).space then Some x else exported_for e xs

-- An abstract type is met by an abstract type, a data type, a newtype, or a synonym without parameters; any other
-- declaration by
-- one of its own form.
abbrev pub SameForm : Entity → Entity → Type 0
SameForm (Abstract n k) (Abstract m l) = Unit {0}
SameForm (Abstract n k) (DataType m l q new ds) = Unit {0}
SameForm (Abstract n k) (Synonym m l q b) = q ≡ 0
SameForm (Abstract n k) (Value m c f) = ⊥
SameForm (DataType n k p new cs) (DataType m l q newer ds) = new ≡ newer
SameForm (DataType n k p new cs) (Abstract m l) = ⊥
SameForm (DataType n k p new cs) (Synonym m l q b) = ⊥
SameForm (DataType n k p new cs) (Value m c f) = ⊥
SameForm (Synonym n k p a) (Synonym m l q b) = p ≡ q
SameForm (Synonym n k p a) (Abstract m l) = ⊥
SameForm (Synonym n k p a) (DataType m l q new ds) = ⊥
SameForm (Synonym n k p a) (Value m c f) = ⊥
SameForm (Value n c f) (Value m d g) = Unit {0}
SameForm (Value n c f) (Abstract m l) = ⊥
SameForm (Value n c f) (DataType m l q new ds) = ⊥
SameForm (Value n c f) (Synonym m l q b) = ⊥

-- the kind of a type; a value has none
abbrev pub kinds_of_entity : Entity → List KindTerm
kinds_of_entity (Abstract n k) = kind_term k ∷ []
kinds_of_entity (DataType n k p new cs) = kind_term k ∷ []
kinds_of_entity (Synonym n k p b) = kind_term k ∷ []
kinds_of_entity (Value n c f) = []

-- the constructors that a signature asks for: those of a full data type or newtype
abbrev pub constructors_of : Entity → List Con
constructors_of (Abstract n k) = []
constructors_of (DataType n k p new cs) = cs
constructors_of (Synonym n k p b) = []
constructors_of (Value n c f) = []

-- the same names in the same order, and all of them exported
abbrev pub SameConstructors : Entity → Export → Type 0
SameConstructors (Abstract n k) x = Unit {0}
SameConstructors (DataType n k p new cs) x = (map (λ c. c.occ) (constructors_of x.entity) ≡ map (λ c. c.occ) cs)
    × (x.cons ≡ map (λ c. c.occ) cs)
SameConstructors (Synonym n k p b) x = Unit {0}
SameConstructors (Value n c f) x = Unit {0}

-- what is compared of a field and of a constructor
pub record FieldShape : Type 0 where
  pub strict : Bool
  pub type : TypeTerm

pub record ConstructorShape : Type 0 where
  pub fields : List FieldShape
  pub fixity : Fixity

abbrev pub shape_of : Con → ConstructorShape
shape_of c = record {
  fields = map
      (λ f. record { strict = f.strict; type = type_term f.ty }) c.fields;
  fixity = c.fixity;
}

abbrev pub SameFields : Entity → Entity → Type 0
SameFields (Abstract n k) d = Unit {0}
SameFields (DataType n k p new cs) d = map shape_of (constructors_of d) ≡ map shape_of cs
SameFields (Synonym n k p b) d = Unit {0}
SameFields (Value n c f) d = Unit {0}

-- a type's variables, behind those that were met before, in order of first occurrence
abbrev pub variables_met : List ℕ → TypeTerm → List ℕ
variables_met met (var i) = if list_any (nat_eq i) met then met else met ++ i ∷ []
variables_met met (con n) = met
variables_met met (app f a) = variables_met (variables_met met f) a

-- the place of a variable in a list, from 0
abbrev pub number_in : List ℕ → ℕ → ℕ
number_in [] i = 0
number_in (j ∷ js) i = if nat_eq j i then 0 else suc (number_in js i)

-- the type with its variables numbered by first occurrence: `b -> a -> b` is `t0 -> t1 -> t0`
abbrev pub numbered : TypeTerm → TypeTerm
numbered t = applied (λ i. var (number_in (variables_met [] t) i)) t

-- A value's type is what it is up to the numbering of its variables; in a synonym's body the parameters are numbered by
-- its head.
abbrev pub types_of : Entity → List TypeTerm
types_of (Abstract n k) = []
types_of (DataType n k p new cs) = []
types_of (Synonym n k p b) = type_term b ∷ []
types_of (Value n c f) = numbered (type_term c.body) ∷ []

abbrev pub SameType : Entity → Entity → Type 0
SameType (Abstract n k) d = Unit {0}
SameType (DataType n k p new cs) d = Unit {0}
SameType (Synonym n k p b) d = types_of d ≡ type_term b ∷ []
SameType (Value n c f) d = types_of d ≡ numbered (type_term c.body) ∷ []

abbrev pub fixities_of : Entity → List Fixity
fixities_of (Abstract n k) = []
fixities_of (DataType n k p new cs) = []
fixities_of (Synonym n k p b) = []
fixities_of (Value n c f) = f ∷ []

abbrev pub SameFixity : Entity → Entity → Type 0
SameFixity (Abstract n k) d = Unit {0}
SameFixity (DataType n k p new cs) d = Unit {0}
SameFixity (Synonym n k p b) d = Unit {0}
SameFixity (Value n c f) d = fixities_of d ≡ f ∷ []

-- The cause does not hold of an entry and what is exported for it.
abbrev pub Passes : Why → Entity → Export → Type 0
Passes w.Missing e x = Unit {0}
Passes w.Form e x = SameForm e x.entity
Passes w.Kind e x = kinds_of_entity x.entity ≡ kinds_of_entity e
Passes w.Constructors e x = SameConstructors e x
Passes w.FieldType e x = SameFields e x.entity
Passes w.OtherType e x = SameType e x.entity
Passes w.Fixity e x = SameFixity e x.entity

-- the causes in the order in which they are asked
abbrev pub causes : List Why
causes = w.Form ∷ w.Kind ∷ w.Constructors ∷ w.FieldType ∷ w.OtherType ∷ w.Fixity ∷ []

abbrev pub PassAll : List Why → Entity → Export → Type 0
PassAll [] e x = Unit {0}
PassAll (c ∷ cs) e x = Passes c e x × PassAll cs e x

-- An entry is matched: something is exported for it, and no cause holds.
abbrev pub IsMatched : List Export → Entity → Type 0
IsMatched exports e = (x : Export) × (exported_for e exports ≡ Some x) × PassAll causes e x

-- The first cause that holds: nothing is exported for the entry, or the causes before it do not hold and it does.
abbrev pub IsFirstCause : List Export → Entity → Why → Type 0
IsFirstCause exports e why = ((why ≡ w.Missing) × (exported_for e exports ≡ None))
    ⊎ ((x : Export) × (exported_for e exports ≡ Some x) × (before : List Why) × (after : List Why)
    × (causes ≡ before ++ why ∷ after) × PassAll before e x × (Passes why e x → ⊥))

-- an interface matches a signature: each entry is matched
abbrev pub Matches : List Entity → List Export → Type 0
Matches [] exports = Unit {0}
Matches (e ∷ es) exports = IsMatched exports e × Matches es exports

-- the first entry that is not matched, with its first cause
abbrev pub IsMismatch : List Entity → List Export → Text → Why → Type 0
IsMismatch [] exports occ why = ⊥
IsMismatch (e ∷ es) exports occ why =
    (((entity_name e).occ ≡ occ) × IsFirstCause exports e why) ⊎ (IsMatched exports e × IsMismatch es exports occ why)
