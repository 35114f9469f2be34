-- The interface of the module `Prelude` of the component `base`. This table is this project's own: the names are those
-- of the Haskell
-- 2010 Report, chapter 9, with types of this project. Types that are written by syntax alone are not exported.
use Rattle.std.specs.Prelude.{ℕ, zero, suc, false, List, [], ◌∷◌, ◌++◌, map, codes}
use Rattle.bp_base.specs.Texts.{Text}
use Rattle.bp_base.specs.Entities.{default_fixity}
use Rattle.bp_base.specs.Specials.{base_prelude, special_name}
use Rattle.bp_base.specs.declared.special.Special.{Special}
use Rattle.bp_base.specs.declared.special.Special.TheVariants as s
use Rattle.bp_base.specs.declared.ty.Space.TheVariants.{Types, Values}
use Rattle.bp_base.specs.declared.ty.Kind.{Kind}
use Rattle.bp_base.specs.declared.ty.Kind.TheVariants.{Star, Arrow}
use Rattle.bp_base.specs.declared.ty.Ty.{Ty}
use Rattle.bp_base.specs.declared.ty.Ty.TheVariants.{Var, Con, App}
use Rattle.bp_base.specs.declared.entity.Assoc.TheVariants.{Left, Right, Neither}
use Rattle.bp_base.specs.declared.entity.Fixity.{Fixity}
use Rattle.bp_base.specs.declared.entity.Field.{Field}
use Rattle.bp_base.specs.declared.entity.Con.{Con as Constructor}
use Rattle.bp_base.specs.declared.entity.Entity.TheVariants.{DataType, Synonym, Value}
use Rattle.bp_base.specs.declared.entity.Export.{Export}
use Rattle.bp_base.specs.declared.entity.Interface.{Interface}

-- ---- types

-- the kind of a type constructor with so many parameters, each of kind `*`
abbrev pub kind_with : ℕ → Kind
kind_with zero = Star
kind_with (suc n) = Arrow Star (kind_with n)

-- a type that `base` declares
abbrev pub declared : Text → ℕ → Ty
declared occ params = Con (record { at = base_prelude; space = Types; occ = occ }) (kind_with params)

-- a type that is written by syntax alone
abbrev pub special_type : Special → ℕ → Ty
special_type special params = Con (special_name Types special) (kind_with params)

abbrev pub int : Ty
int = declared (codes "Int") 0

abbrev pub char : Ty
char = declared (codes "Char") 0

abbrev pub bool : Ty
bool = declared (codes "Bool") 0

abbrev pub unit : Ty
unit = special_type s.Unit 0

abbrev pub list : Ty → Ty
list t = App (special_type s.List 1) t

abbrev pub pair : Ty → Ty → Ty
pair t u = App (App (special_type (s.Tuple 2) 2) t) u

abbrev pub maybe : Ty → Ty
maybe t = App (declared (codes "Maybe") 1) t

abbrev pub either : Ty → Ty → Ty
either t u = App (App (declared (codes "Either") 2) t) u

abbrev pub io : Ty → Ty
io t = App (declared (codes "IO") 1) t

infixr 30 ◌⇒◌
-- `t -> u`
abbrev pub ◌⇒◌ : Ty → Ty → Ty
t ⇒ u = App (App (special_type s.Arrow 2) t) u

-- Variables are numbered by first occurrence: a stands before b, and b before c, in each type below.
abbrev pub a : Ty
a = Var 0

abbrev pub b : Ty
b = Var 1

abbrev pub c : Ty
c = Var 2

-- ---- entities

abbrev pub left : ℕ → Fixity
left n = record { assoc = Left; level = n }

abbrev pub right : ℕ → Fixity
right n = record { assoc = Right; level = n }

abbrev pub neither : ℕ → Fixity
neither n = record { assoc = Neither; level = n }

-- without a fixity declaration
abbrev pub usual : Fixity
usual = default_fixity

-- a value: its name, its fixity, how many variables its type has, and its type
abbrev pub value : Text → Fixity → ℕ → Ty → Export
value occ fixity vars ty = record {
  occ = occ;
  entity = Value (record { at = base_prelude; space = Values; occ = occ }) (record { vars = vars; body = ty }) fixity;
  cons = [];
}

-- a field without `!`
abbrev pub field : Ty → Field
field t = record { strict = false; ty = t }

-- a constructor: its name and the types of its fields
abbrev pub con : Text → List Ty → Constructor
con occ fields = record { occ = occ; fields = map field fields; fixity = usual }

-- a data type: its name, how many parameters it has, and its constructors, which are all exported
abbrev pub data_type : Text → ℕ → List Constructor → Export
data_type occ params cons = record {
  occ = occ;
  entity = DataType (record { at = base_prelude; space = Types; occ = occ }) (kind_with params) params false cons;
  cons = map (λ k. k.occ) cons;
}

-- a synonym without parameters
abbrev pub synonym : Text → Ty → Export
synonym occ body = record {
  occ = occ;
  entity = Synonym
      (record { at = base_prelude; space = Types; occ = occ }) Star 0 body;
  cons = [];
}

-- ---- the tables, each in byte order of the name

abbrev pub base_types : List Export
base_types =
    data_type (codes "Bool") 0 (con (codes "False") [] ∷ con (codes "True") [] ∷ [])
    ∷ data_type (codes "Char") 0 []
    ∷ data_type (codes "Either") 2 (con (codes "Left") (a ∷ []) ∷ con (codes "Right") (b ∷ []) ∷ [])
    ∷ data_type (codes "IO") 1 []
    ∷ data_type (codes "Int") 0 []
    ∷ data_type (codes "Maybe") 1 (con (codes "Nothing") [] ∷ con (codes "Just") (a ∷ []) ∷ [])
    ∷ synonym (codes "String") (list char)
    ∷ []

abbrev pub base_values : List Export
base_values =
    value (codes "!!") (left 9) 1 (list a ⇒ int ⇒ a)
    ∷ value (codes "$") (right 0) 2 ((a ⇒ b) ⇒ a ⇒ b)
    ∷ value (codes "&&") (right 3) 0 (bool ⇒ bool ⇒ bool)
    ∷ value (codes "*") (left 7) 0 (int ⇒ int ⇒ int)
    ∷ value (codes "+") (left 6) 0 (int ⇒ int ⇒ int)
    ∷ value (codes "++") (right 5) 1 (list a ⇒ list a ⇒ list a)
    ∷ value (codes "-") (left 6) 0 (int ⇒ int ⇒ int)
    ∷ value (codes ".") (right 9) 3 ((a ⇒ b) ⇒ (c ⇒ a) ⇒ c ⇒ b)
    ∷ value (codes "/=") (neither 4) 0 (int ⇒ int ⇒ bool)
    ∷ value (codes "<") (neither 4) 0 (int ⇒ int ⇒ bool)
    ∷ value (codes "<=") (neither 4) 0 (int ⇒ int ⇒ bool)
    ∷ value (codes "==") (neither 4) 0 (int ⇒ int ⇒ bool)
    ∷ value (codes ">") (neither 4) 0 (int ⇒ int ⇒ bool)
    ∷ value (codes ">=") (neither 4) 0 (int ⇒ int ⇒ bool)
    ∷ value (codes ">>") (left 1) 2 (io a ⇒ io b ⇒ io b)
    ∷ value (codes ">>=") (left 1) 2 (io a ⇒ (a ⇒ io b) ⇒ io b)
    ∷ value (codes "abs") usual 0 (int ⇒ int)
    ∷ value (codes "chr") usual 0 (int ⇒ char)
    ∷ value (codes "concat") usual 1 (list (list a) ⇒ list a)
    ∷ value (codes "const") usual 2 (a ⇒ b ⇒ a)
    ∷ value (codes "curry") usual 3 ((pair a b ⇒ c) ⇒ a ⇒ b ⇒ c)
    ∷ value (codes "div") (left 7) 0 (int ⇒ int ⇒ int)
    ∷ value (codes "drop") usual 1 (int ⇒ list a ⇒ list a)
    ∷ value (codes "either") usual 3 ((a ⇒ b) ⇒ (c ⇒ b) ⇒ either a c ⇒ b)
    ∷ value (codes "eqChar") usual 0 (char ⇒ char ⇒ bool)
    ∷ value (codes "error") usual 1 (list char ⇒ a)
    ∷ value (codes "filter") usual 1 ((a ⇒ bool) ⇒ list a ⇒ list a)
    ∷ value (codes "flip") usual 3 ((a ⇒ b ⇒ c) ⇒ b ⇒ a ⇒ c)
    ∷ value (codes "foldl") usual 2 ((a ⇒ b ⇒ a) ⇒ a ⇒ list b ⇒ a)
    ∷ value (codes "foldr") usual 2 ((a ⇒ b ⇒ b) ⇒ b ⇒ list a ⇒ b)
    ∷ value (codes "fst") usual 2 (pair a b ⇒ a)
    ∷ value (codes "head") usual 1 (list a ⇒ a)
    ∷ value (codes "id") usual 1 (a ⇒ a)
    ∷ value (codes "length") usual 1 (list a ⇒ int)
    ∷ value (codes "map") usual 2 ((a ⇒ b) ⇒ list a ⇒ list b)
    ∷ value (codes "maybe") usual 2 (a ⇒ (b ⇒ a) ⇒ maybe b ⇒ a)
    ∷ value (codes "mod") (left 7) 0 (int ⇒ int ⇒ int)
    ∷ value (codes "negate") usual 0 (int ⇒ int)
    ∷ value (codes "not") usual 0 (bool ⇒ bool)
    ∷ value (codes "null") usual 1 (list a ⇒ bool)
    ∷ value (codes "ord") usual 0 (char ⇒ int)
    ∷ value (codes "otherwise") usual 0 bool
    ∷ value (codes "putStr") usual 0 (list char ⇒ io unit)
    ∷ value (codes "putStrLn") usual 0 (list char ⇒ io unit)
    ∷ value (codes "quot") (left 7) 0 (int ⇒ int ⇒ int)
    ∷ value (codes "rem") (left 7) 0 (int ⇒ int ⇒ int)
    ∷ value (codes "return") usual 1 (a ⇒ io a)
    ∷ value (codes "reverse") usual 1 (list a ⇒ list a)
    ∷ value (codes "seq") (right 0) 2 (a ⇒ b ⇒ b)
    ∷ value (codes "show") usual 0 (int ⇒ list char)
    ∷ value (codes "snd") usual 2 (pair a b ⇒ b)
    ∷ value (codes "tail") usual 1 (list a ⇒ list a)
    ∷ value (codes "take") usual 1 (int ⇒ list a ⇒ list a)
    ∷ value (codes "uncurry") usual 3 ((a ⇒ b ⇒ c) ⇒ pair a b ⇒ c)
    ∷ value (codes "undefined") usual 1 a
    ∷ value (codes "zip") usual 2 (list a ⇒ list b ⇒ list (pair a b))
    ∷ value (codes "||") (right 2) 0 (bool ⇒ bool ⇒ bool)
    ∷ []

-- types, then values
abbrev pub base : Interface
base = record { «module» = base_prelude; exports = base_types ++ base_values }
