-- Why equations have no unifier, and the condition on units.
use Rattle.std.specs.Prelude.{◌≡◌, List, [], ◌∷◌, ◌++◌, map}
use Rattle.bp_base.specs.declared.ident.Ident.{Ident}
use Rattle.bp_base.specs.declared.ident.Ident.TheVariants.{Hole, Module'}
use Rattle.bp_base.specs.declared.ident.Unit.{Unit as OfUnit, Unit', out-Unit}
use Rattle.bp_base.specs.declared.ident.Ident.TheBlock.{end_of-Unit, more_of-Unit, Row_of-Fill, end_of-Fill}
use Rattle.bp_base.specs.declared.ident.Ident.TheBlock.{more_of-Fill}
use Rattle.bp_base.specs.Lists.{Among}
use Rattle.bp_base.specs.Texts.{Text, Rise}
use Rattle.hole_unify.specs.declared.equation.Equation.{Equation}
use Rattle.hole_unify.specs.declared.equation.Head.{Head}
use Rattle.hole_unify.specs.declared.equation.IdentUnifyError.{IdentUnifyError}
use Rattle.hole_unify.specs.declared.equation.IdentUnifyError.TheVariants.{Clash, Cycle, NoMemory}
use Rattle.hole_unify.specs.Unifiers.{HasUnifier}
use Rattle.hole_unify.specs.Classes.{HasHeads, IsLeastCycle}

-- the equation with the label is the first such that those up to it and with it, `front`, have no unifier
pub record FailsAt (es front : List Equation) (label : Text) : Type 0 where
  pub split : (before : List Equation) × (e : Equation) × (after : List Equation) × (front ≡ before ++ e ∷ [])
      × (es ≡ front ++ after) × (e.label ≡ label) × HasUnifier before
  pub fails : HasUnifier front → ⊥

abbrev pub IsCause : List Equation → IdentUnifyError → Type 0
IsCause es (Clash label one other) = (front : List Equation) × FailsAt es front label × HasHeads front one other
IsCause es (Cycle label hole) = (front : List Equation) × FailsAt es front label
    × ((one other : Head) → HasHeads front one other → ⊥) × IsLeastCycle front hole
IsCause es NoMemory = Unit {0}

-- the units that occur in an identity
abbrev mutual
  pub units_of : Ident → List OfUnit
  units_of (Hole n) = []
  units_of (Module' s (more_of-Unit u end_of-Unit) m) = u ∷ units_below u

  pub units_below : OfUnit → List OfUnit
  units_below (Unit' c s r) = units_of_row r

  pub units_of_row : {m : _} → Row_of-Fill m → List OfUnit
  units_of_row end_of-Fill = []
  units_of_row (more_of-Fill h i r) = units_of i ++ units_of_row r

abbrev pub units_in : List Equation → List OfUnit
units_in [] = []
units_in (e ∷ es) = units_of e.left ++ (units_of e.right ++ units_in es)

abbrev pub holes_of : OfUnit → List Text
holes_of u = map (λ f. f.hole) (out-Unit u).fills

-- units of one component have the same holes, and in each unit they rise strictly
pub record IsLawful (es : List Equation) : Type 0 where
  pub same_holes : (u v : OfUnit) → Among u (units_in es) → Among v (units_in es)
      → (out-Unit u).component ≡ (out-Unit v).component → holes_of u ≡ holes_of v
  pub rising : (u : OfUnit) → Among u (units_in es) → Rise (holes_of u)
