use Rattle.std.proofs.Common.{◌≡◌, drop}
use Rattle.bp_base.specs.Holes.{fills_have_hole}
use Rattle.bp_base.proofs.hole.+occurs.Given as goal

abbrev pub invariant-occurs_in_fills-loop-each : goal.invariant-occurs_in_fills-loop-each
invariant-occurs_in_fills-loop-each l = fills_have_hole l.hole
    (drop l.each-index l.fills) ≡ fills_have_hole l.hole l.fills
