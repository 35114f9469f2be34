use Rattle.std.proofs.Common.{◌≤◌, ◌-◌, length}
use Rattle.hole_unify.specs.Stages.{number_place}
use Rattle.hole_unify.proofs.answer.place_of.Given as goal

abbrev pub invariant-loop-low : goal.invariant-loop-low
invariant-loop-low l = record {
  before : l.low ≤ number_place l.hole l.fills;
  after : number_place l.hole l.fills ≤ l.high;
  within : l.high ≤ length l.fills;
}

abbrev pub decreases-loop-low : goal.decreases-loop-low
decreases-loop-low l = l.high - l.low
