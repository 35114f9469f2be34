use Rattle.std.proofs.Common.{◌≡◌, drop}
use Rattle.hole_unify.specs.Lawful.{agrees_with}
use Rattle.hole_unify.proofs.lawful.agrees_with_all.Given as goal

abbrev pub invariant-loop-other : goal.invariant-loop-other
invariant-loop-other l = agrees_with l.unit (drop l.other-index l.units) ≡ agrees_with l.unit l.units
