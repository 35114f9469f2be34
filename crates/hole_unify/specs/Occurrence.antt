-- What an answer is made of.
use Rattle.std.specs.Prelude.{◌≡◌, List}
use Rattle.bp_base.specs.declared.ident.Ident.{Ident}
use Rattle.bp_base.specs.declared.ident.Ident.TheVariants.{Hole, Module, Module'}
use Rattle.bp_base.specs.declared.ident.Unit.{Unit as OfUnit, out-Unit}
use Rattle.bp_base.specs.declared.ident.Fill.{Fill}
use Rattle.bp_base.specs.declared.ident.Ident.TheBlock.{end_of-Unit, more_of-Unit}
use Rattle.bp_base.specs.Lists.{Among}
use Rattle.ident_table.specs.Parts.{terms_of}
use Rattle.hole_unify.specs.declared.equation.Equation.{Equation}
use Rattle.hole_unify.specs.Causes.{holes_of}
use Rattle.hole_unify.specs.Table.{terms_in}

-- a hole of the equations, or a module with the component, the holes and the name of a module of the equations
abbrev pub Occurs : List Equation → Ident → Type 0
Occurs es (Hole n) = Among (Hole n) (terms_in es)
Occurs es (Module' s (more_of-Unit u end_of-Unit) m) =
    (v : OfUnit) × Among (Module v m) (terms_in es) × ((out-Unit v).component ≡ (out-Unit u).component)
    × (holes_of v ≡ holes_of u)

-- the fills are of holes of the equations, and so is whatever stands in them
pub record AreOfEquations (es : List Equation) (fs : List Fill) : Type 0 where
  pub holes : (f : Fill) → Among f fs → Among (Hole f.hole) (terms_in es)
  pub parts : (f : Fill) → Among f fs → (t : Ident) → Among t (terms_of f.ident) → Occurs es t
