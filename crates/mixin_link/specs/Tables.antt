-- Tables of equations and of identities by names.
use Rattle.std.specs.Prelude.{ℕ, List, [], unwrap_or}
use Rattle.bp_base.specs.declared.ident.Ident.{Ident}
use Rattle.bp_base.specs.declared.ident.Ident.TheVariants.{Hole}
use Rattle.std.specs.HashMap.{HashMap, get}
use Rattle.std.specs.Str.{bytes_eq}
use Rattle.hole_unify.specs.declared.equation.Equation.{Equation}

-- the equations that a table has of a name
abbrev pub equations_in : {S : Type 0} → HashMap (List ℕ) (List Equation) S → List ℕ → List Equation
equations_in table name = unwrap_or (get bytes_eq table name) []

-- the identity that a table has of a name: the hole of that name where it has none
abbrev pub ident_in : {S : Type 0} → HashMap (List ℕ) Ident S → List ℕ → Ident
ident_in table name = unwrap_or (get bytes_eq table name) (Hole name)
