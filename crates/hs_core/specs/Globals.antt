-- What names of modules mean to kinds and types.
use Rattle.std.specs.Prelude.{◌≡◌, ◌≢◌, ℕ, zero, suc, List, [], ◌∷◌, ◌++◌, Option, Some, None, map, flat_map, replicate}
use Rattle.std.specs.Prelude.{if◌then◌else◌, codes}
use Rattle.bp_base.specs.Specials.{special_name, base_prelude}
use Rattle.bp_base.specs.declared.special.Special.{Special}
use Rattle.bp_base.specs.declared.special.Special.TheVariants as s
use Rattle.bp_base.specs.declared.ty.Space.TheVariants.{Types, Values}
use Rattle.bp_base.specs.declared.ty.OrigName.{OrigName}
use Rattle.bp_base.specs.declared.ty.Ty.{Ty}
use Rattle.bp_base.specs.declared.ty.Ty.TheVariants.{Var, Con, App'}
use Rattle.bp_base.specs.declared.ty.Ty.TheBlock.{more_of-Ty, end_of-Ty}
use Rattle.bp_base.specs.declared.entity.Con.{Con as Constructing}
use Rattle.bp_base.specs.declared.entity.Entity.{Entity}
use Rattle.bp_base.specs.declared.entity.Entity.TheVariants.{Abstract, DataType, Synonym as SynonymOf, Value}
use Rattle.type_terms.specs.Terms.{var, con}
use Rattle.hs_core.specs.Sameness.{same_original}
use Rattle.hs_core.specs.Types.{KindTerm, star, arrow, arrows, TypeTerm, applied_to, list_of, tuple_of, function}
use Rattle.hs_core.specs.Types.{functions, special_type, integer, kind_term, type_term}
use Rattle.hs_core.specs.Kinds.{NameKinds}
use Rattle.hs_core.specs.Expansion.{Synonym, Synonyms}

-- a constructor's fields and its data type, over the data type's parameters
pub record Constructor : Type 0 where
  pub fields : List TypeTerm
  pub result : TypeTerm

-- what a name means: a type of a kind that is no synonym, a synonym, a value of a declared type, or a constructor
pub data NameMeaning : Type 0 where
  type_name : (kind : KindTerm) → NameMeaning
  synonym_name : (kind : KindTerm) (stands_for : Synonym) → NameMeaning
  value_name : (type : TypeTerm) → NameMeaning
  constructor_name : (shape : Constructor) → NameMeaning

-- the names of a program: each has one meaning or none
abbrev pub Globals : Type 0
Globals = OrigName → Option NameMeaning

-- ---- what is asked of a meaning

abbrev pub kind_in : Option NameMeaning → Option KindTerm
kind_in None = None
kind_in (Some (type_name k)) = Some k
kind_in (Some (synonym_name k s)) = Some k
kind_in (Some (value_name t)) = None
kind_in (Some (constructor_name c)) = None

abbrev pub synonym_in : Option NameMeaning → Option Synonym
synonym_in None = None
synonym_in (Some (type_name k)) = None
synonym_in (Some (synonym_name k s)) = Some s
synonym_in (Some (value_name t)) = None
synonym_in (Some (constructor_name c)) = None

-- the type that a name has in an expression: a value's own, or a constructor's function from its fields
abbrev pub type_in : Option NameMeaning → Option TypeTerm
type_in None = None
type_in (Some (type_name k)) = None
type_in (Some (synonym_name k s)) = None
type_in (Some (value_name t)) = Some t
type_in (Some (constructor_name c)) = Some (functions c.fields c.result)

-- names of types with their kinds
abbrev pub kinds_of : Globals → NameKinds
kinds_of G n k = kind_in (G n) ≡ Some k

abbrev pub synonyms_of : Globals → Synonyms
synonyms_of G n = synonym_in (G n)

-- the names that stand in expanded types, with their kinds
abbrev pub plain_names : Globals → NameKinds
plain_names G n k = G n ≡ Some (type_name k)

-- a name in an expression has a declared type
abbrev pub HasDeclared : Globals → OrigName → TypeTerm → Type 0
HasDeclared G n t = type_in (G n) ≡ Some t

abbrev pub HasConstructor : Globals → OrigName → Constructor → Type 0
HasConstructor G n c = G n ≡ Some (constructor_name c)

-- ---- lists of names

pub record Named : Type 0 where
  pub name : OrigName
  pub means : NameMeaning

-- names of a list in front of others: of two of one name the first counts
abbrev pub in_front : List Named → Globals → Globals
in_front [] G n = G n
in_front (x ∷ xs) G n = if same_original x.name n then Some x.means else in_front xs G n

abbrev pub no_names : Globals
no_names n = None

-- ---- names that are known everywhere, whatever is seen

-- the variables from a number on, so many
abbrev pub variables_from : ℕ → ℕ → List TypeTerm
variables_from i zero = []
variables_from i (suc n) = var i ∷ variables_from (suc i) n

-- the kinds of types with a syntax of their own (Haskell 2010 Report, section 4.1.2)
abbrev pub special_kind : Special → KindTerm
special_kind s.Arrow = arrow star (arrow star star)
special_kind s.List = arrow star star
special_kind s.Unit = star
special_kind (s.Tuple parts) = arrows (replicate parts star) star
special_kind s.Cons = star

-- the constructors with a syntax of their own (Haskell 2010 Report, section 6.1)
abbrev pub special_constructor : Special → Constructor
special_constructor s.Arrow = record { fields = []; result = special_type s.Unit }
special_constructor s.List = record { fields = []; result = list_of (var 0) }
special_constructor s.Unit = record { fields = []; result = special_type s.Unit }
special_constructor
    (s.Tuple parts) = record { fields = variables_from 0 parts; result = tuple_of (variables_from 0 parts) }
special_constructor s.Cons = record { fields = var 0 ∷ list_of (var 0) ∷ []; result = list_of (var 0) }

-- tuples have 2 to 15 parts
abbrev pub tuples : List Special
tuples = map s.Tuple (2 ∷ 3 ∷ 4 ∷ 5 ∷ 6 ∷ 7 ∷ 8 ∷ 9 ∷ 10 ∷ 11 ∷ 12 ∷ 13 ∷ 14 ∷ 15 ∷ [])

abbrev pub special_types : List Named
special_types = map (λ x. record { name = special_name Types x; means = type_name (special_kind x) })
    (s.Arrow ∷ s.List ∷ s.Unit ∷ tuples)

abbrev pub special_constructors : List Named
special_constructors = map
    (λ x. record { name = special_name Values x; means = constructor_name (special_constructor x) })
    (s.Cons ∷ s.List ∷ s.Unit ∷ tuples)

-- the types of literals and of tests
abbrev pub literal_types : List Named
literal_types = map
    (λ x. record { name = record { at = base_prelude; space = Types; occ = x }; means = type_name star })
    (codes "Int" ∷ codes "Char" ∷ codes "Bool" ∷ [])

-- what `-e` applies (Haskell 2010 Report, section 3.4)
abbrev pub negate : OrigName
negate = record { at = base_prelude; space = Values; occ = codes "negate" }

abbrev pub known_names : List Named
known_names = special_types ++ literal_types ++ special_constructors
    ++ record { name = negate; means = value_name (function integer integer) } ∷ []

-- ---- names of entities

-- a constructor of a data type with so many parameters
abbrev pub constructor_of : OrigName → ℕ → Constructing → Named
constructor_of m p c = record {
  name = record { at = m.at; space = Values; occ = c.occ };
  means = constructor_name
      (record { fields = map (λ f. type_term f.ty) c.fields; result = applied_to (con m) (variables_from 0 p) });
}

-- an entity declares its own name, and a data type also those of its constructors
abbrev pub declared_by : Entity → List Named
declared_by (Abstract m k) = record { name = m; means = type_name (kind_term k) } ∷ []
declared_by (DataType m k p w cs) = record { name = m; means = type_name (kind_term k) } ∷ map (constructor_of m p) cs
declared_by
    (SynonymOf m k p b) = record {
      name = m;
      means = synonym_name (kind_term k)
          (record { params = p; body = type_term b });
    } ∷ []
declared_by (Value m c f) = record { name = m; means = value_name (type_term c.body) } ∷ []

-- the names in a type, with the kinds that are noted at them
abbrev pub noted_in : Ty → List Named
noted_in (Var i) = []
noted_in (Con n k) = record { name = n; means = type_name (kind_term k) } ∷ []
noted_in (App' s (more_of-Ty f end_of-Ty) z (more_of-Ty a end_of-Ty)) = noted_in f ++ noted_in a

abbrev pub noted_by : Entity → List Named
noted_by (Abstract m k) = []
noted_by (DataType m k p w cs) = flat_map (λ c. flat_map (λ f. noted_in f.ty) c.fields) cs
noted_by (SynonymOf m k p b) = noted_in b
noted_by (Value m c f) = noted_in c.body

-- What entities declare, and behind it the kinds that their types note: so the kind of a type is known also where its
-- name is not
-- exported.
abbrev pub names_of : List Entity → List Named
names_of es = flat_map declared_by es ++ flat_map noted_by es

-- the names of entities, behind those that are known everywhere
abbrev pub globals_of : List Entity → Globals
globals_of es = in_front (known_names ++ names_of es) no_names

-- a name has one kind
abbrev pub KindIsOne : Type 0
KindIsOne = (G : Globals) (n : OrigName) (k j : KindTerm) → kinds_of G n k → kinds_of G n j → k ≡ j

-- of a list the first entry of a name counts, and other names have the meaning that they have behind it
abbrev pub FirstCounts : Type 0
FirstCounts = (x : Named) (xs : List Named) (G : Globals)
    → (in_front (x ∷ xs) G x.name ≡ Some x.means)
    × ((n : OrigName) → (x.name ≢ n) → in_front (x ∷ xs) G n ≡ in_front xs G n)
