use Rattle.std.proofs.Common.{◌≡◌, ◌++◌, drop}
use Rattle.hole_unify.specs.Causes.{units_in}
use Rattle.hole_unify.proofs.lawful.list_equations.Given as goal

abbrev pub invariant-loop-each : goal.invariant-loop-each
invariant-loop-each l = l.units.items ++ units_in (drop l.each-index l.equations) ≡ units_in l.equations
