use Rattle.std.proofs.Common.{◌≡◌, drop}
use Rattle.bp_base.specs.Holes.{fills_closed}
use Rattle.bp_base.proofs.hole.+closed.Given as goal

abbrev pub invariant-are_closed-loop-each : goal.invariant-are_closed-loop-each
invariant-are_closed-loop-each l = fills_closed (drop l.each-index l.fills) ≡ fills_closed l.fills
