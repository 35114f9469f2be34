use Rattle.std.proofs.Common.{◌-◌}
use Rattle.hole_unify.specs.Solve.{IsRange}
use Rattle.hole_unify.proofs.solve.first_obstacle.Given as goal

abbrev pub invariant-loop-range : goal.invariant-loop-range
invariant-loop-range l = IsRange l.equations l.range

abbrev pub decreases-loop-range : goal.decreases-loop-range
decreases-loop-range l = l.range.high - l.range.low
