use Rattle.std.proofs.Common.{◌≡◌, drop}
use Rattle.hole_unify.specs.Lawful.{all_agree}
use Rattle.hole_unify.proofs.lawful.do_all_agree.Given as goal

abbrev pub invariant-loop-unit : goal.invariant-loop-unit
invariant-loop-unit l = all_agree l.units (drop l.unit-index l.units) ≡ all_agree l.units l.units
