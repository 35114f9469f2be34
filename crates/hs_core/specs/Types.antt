-- Types and kinds as terms.
use Rattle.std.specs.Prelude.{ℕ, zero, suc, Bool, true, nat_le, max, List, [], ◌∷◌, ◌++◌, if◌then◌else◌, codes}
use Rattle.std.specs.Str.{bytes_eq}
use Rattle.bp_base.specs.Texts.{Text}
use Rattle.bp_base.specs.Lists.{is_among}
use Rattle.bp_base.specs.Specials.{base_prelude, special_name}
use Rattle.bp_base.specs.declared.special.Special.{Special}
use Rattle.bp_base.specs.declared.special.Special.TheVariants as s
use Rattle.bp_base.specs.declared.ty.Space.TheVariants.{Types}
use Rattle.bp_base.specs.declared.ty.OrigName.{OrigName}
use Rattle.bp_base.specs.declared.ty.Kind.{Kind}
use Rattle.bp_base.specs.declared.ty.Kind.TheVariants.{Star, Arrow'}
use Rattle.bp_base.specs.declared.ty.Kind.TheBlock.{more_of-Kind, end_of-Kind}
use Rattle.bp_base.specs.declared.ty.Ty.{Ty}
use Rattle.bp_base.specs.declared.ty.Ty.TheVariants.{Var, Con, App'}
use Rattle.bp_base.specs.declared.ty.Ty.TheBlock.{more_of-Ty, end_of-Ty}
use Rattle.type_terms.specs.Terms.{Term, var, con, app, Assignment}
use Rattle.hs_core.specs.declared.tree.Written.{Written}
use Rattle.hs_core.specs.declared.tree.Written.TheVariants.{WVar, WCon, WApp'}
use Rattle.hs_core.specs.declared.tree.Written.TheBlock.{more_of-Written, end_of-Written}

-- a kind (Haskell 2010 Report, section 4.1.1)
pub data KindTerm : Type 0 where
  star : KindTerm
  arrow : (from to : KindTerm) → KindTerm

-- a type: a term over original names and variables, which are numbers (Haskell 2010 Report, section 4.1.2)
abbrev pub TypeTerm : Type 0
TypeTerm = Term ℕ OrigName

-- the kind that a tree stands for
abbrev pub kind_term : Kind → KindTerm
kind_term Star = star
kind_term (Arrow' s (more_of-Kind f end_of-Kind) z (more_of-Kind t end_of-Kind)) = arrow (kind_term f) (kind_term t)

-- the type that a tree stands for: the kinds noted at its names are no part of it
abbrev pub type_term : Ty → TypeTerm
type_term (Var i) = var i
type_term (Con n k) = con n
type_term (App' s (more_of-Ty f end_of-Ty) z (more_of-Ty a end_of-Ty)) = app (type_term f) (type_term a)

-- the place of a text in a list, from 0; the list's length where it is not there
abbrev pub place : List Text → Text → ℕ
place [] x = 0
place (n ∷ ns) x = if bytes_eq n x then 0 else suc (place ns x)

-- the type that a written one spells, where its variables have these places
abbrev pub written_term : List Text → Written → TypeTerm
written_term names (WVar x) = var (place names x)
written_term names (WCon n) = con n
written_term names (WApp' s (more_of-Written f end_of-Written) z (more_of-Written a end_of-Written)) = app
    (written_term names f) (written_term names a)

-- a written type's variables, behind those that were met before, in order of first occurrence
abbrev pub variables_after : List Text → Written → List Text
variables_after met (WVar x) = if is_among x met then met else met ++ x ∷ []
variables_after met (WCon n) = met
variables_after met (WApp' s (more_of-Written f end_of-Written) z (more_of-Written a end_of-Written)) = variables_after
    (variables_after met f) a

abbrev pub variables : Written → List Text
variables w = variables_after [] w

-- a type applied to others
abbrev pub applied_to : TypeTerm → List TypeTerm → TypeTerm
applied_to t [] = t
applied_to t (u ∷ us) = applied_to (app t u) us

-- a kind of so many parameters
abbrev pub arrows : List KindTerm → KindTerm → KindTerm
arrows [] k = k
arrows (j ∷ js) k = arrow j (arrows js k)

-- the types with a syntax of their own, and those of literals
abbrev pub special_type : Special → TypeTerm
special_type special = con (special_name Types special)

abbrev pub base_type : Text → TypeTerm
base_type x = con (record { at = base_prelude; space = Types; occ = x })

abbrev pub integer : TypeTerm
integer = base_type (codes "Int")

abbrev pub character : TypeTerm
character = base_type (codes "Char")

abbrev pub boolean : TypeTerm
boolean = base_type (codes "Bool")

-- `t -> u`
abbrev pub function : TypeTerm → TypeTerm → TypeTerm
function t u = app (app (special_type s.Arrow) t) u

-- `t1 -> .. -> u`: parameters of these types, in order, and a result
abbrev pub functions : List TypeTerm → TypeTerm → TypeTerm
functions [] u = u
functions (t ∷ ts) u = function t (functions ts u)

-- `[t]`
abbrev pub list_of : TypeTerm → TypeTerm
list_of t = app (special_type s.List) t

-- how many
abbrev pub count : {A : Type 0} → List A → ℕ
count [] = 0
count (x ∷ xs) = suc (count xs)

-- `(t, u)`
abbrev pub tuple_of : List TypeTerm → TypeTerm
tuple_of ts = applied_to (special_type (s.Tuple (count ts))) ts

-- 1 for a variable or a name, and one more than the deeper part for an application
abbrev pub depth : TypeTerm → ℕ
depth (var i) = 1
depth (con n) = 1
depth (app f a) = suc (max (depth f) (depth a))

-- a test of types: no deeper than this
abbrev pub within : ℕ → TypeTerm → Bool
within d t = nat_le (depth t) d

-- the test that every type passes
abbrev pub any : TypeTerm → Bool
any t = true

-- a type for each variable
abbrev pub TypeAssignment : Type 0
TypeAssignment = Assignment ℕ ℕ OrigName

-- the types that a list has for the variables from 0; one past its end, less their number
abbrev pub listed : List TypeTerm → TypeAssignment
listed [] i = var i
listed (t ∷ ts) zero = t
listed (t ∷ ts) (suc i) = listed ts i
