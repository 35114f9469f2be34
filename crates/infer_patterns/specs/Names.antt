-- What inference knows of the names of modules.
use Rattle.std.specs.Prelude.{◌≡◌, ◌≢◌, ◌↔◌, ℕ, ◌+◌, ◌<◌, true, List, length, map, Option, Some, None}
use Rattle.bp_base.specs.Lists.{Among}
use Rattle.bp_base.specs.declared.ty.OrigName.{OrigName}
use Rattle.bp_base.specs.declared.ty.Ty.{Ty}
use Rattle.bp_base.specs.declared.ty.Ty.TheVariants.{Var, Con, App'}
use Rattle.bp_base.specs.declared.ty.Ty.TheBlock.{more_of-Ty, end_of-Ty}
use Rattle.type_terms.specs.Terms.{var, con, occurs_in}
use Rattle.hs_core.specs.Types.{KindTerm, star, arrow, TypeTerm, count, kind_term, type_term}
use Rattle.hs_core.specs.Kinds.{AreLeast, kind_at}
use Rattle.hs_core.specs.Globals.{Constructor, Globals, plain_names, HasDeclared, HasConstructor}
use Rattle.type_unify.specs.Types.{Plain, named}
use Rattle.type_equations.specs.Coded.{applied_at, result_kind}
use Rattle.type_equations.specs.Syntax.{KnowsSyntax}
use Rattle.infer_patterns.specs.declared.names.Declared.{Declared}

-- the kinds that are noted at a type's names are theirs
abbrev pub IsNoted : Globals → Ty → Type 0
IsNoted G (Var i) = Unit {0}
IsNoted G (Con n j) = plain_names G n (kind_term j)
IsNoted G (App' s (more_of-Ty f end_of-Ty) z (more_of-Ty a end_of-Ty)) = IsNoted G f × IsNoted G a

-- a constructor of so many fields, or no constructor
abbrev pub HasShape : Globals → OrigName → Option ℕ → Type 0
HasShape G n None = (c : Constructor) → HasConstructor G n c → ⊥
HasShape G n (Some m) = (c : Constructor) × HasConstructor G n c × (count c.fields ≡ m)

abbrev pub kinds_of_declared : Declared → List KindTerm
kinds_of_declared d = map kind_term d.kinds.items

-- the declared type of a name, with the least kinds of its variables, which are numbered from 0 without gaps
pub record Tells (G : Globals) (d : Declared) : Type 0 where
  pub has : HasDeclared G d.name (type_term d.ty)
  pub noted : IsNoted G d.ty
  pub least : AreLeast (plain_names G) (type_term d.ty) (kind_at (kinds_of_declared d))
  pub variables : (i : ℕ) → (occurs_in i (type_term d.ty) ≡ true) ↔ (i < length (kinds_of_declared d))
  pub shape : HasShape G d.name d.fields

-- all names that have a declared type are among these
pub record Knows (G : Globals) (names : List Declared) : Type 0 where
  pub syntax : KnowsSyntax G
  pub each : (d : Declared) → Among d names → Tells G d
  pub all : (n : OrigName) (t : TypeTerm) → HasDeclared G n t → (d : Declared) × Among d names × (d.name ≡ n)

-- no entry has the name
abbrev pub IsUnknownName : List Declared → OrigName → Type 0
IsUnknownName names n = (d : Declared) → Among d names → d.name ≢ n

-- the kind of a type by the kinds of its variables and those noted at its names
abbrev pub noted_kind : List KindTerm → Ty → KindTerm
noted_kind ks (Var i) = kind_at ks i
noted_kind ks (Con n j) = kind_term j
noted_kind ks (App' s (more_of-Ty f end_of-Ty) z (more_of-Ty a end_of-Ty)) = result_kind (noted_kind ks f)

-- the kind of the argument that a type of this kind takes
abbrev pub argument_kind : KindTerm → KindTerm
argument_kind star = star
argument_kind (arrow j k) = j

-- a type with unknowns for its variables, from one on
abbrev pub instance : List KindTerm → ℕ → Ty → Plain
instance ks first (Var i) = var (first + i)
instance ks first (Con n j) = con (named n j)
instance ks first (App' s (more_of-Ty f end_of-Ty) z (more_of-Ty a end_of-Ty)) =
    applied_at (argument_kind (noted_kind ks f)) (instance ks first f) (instance ks first a)
