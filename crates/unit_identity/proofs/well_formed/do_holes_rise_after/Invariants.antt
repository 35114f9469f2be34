use Rattle.std.proofs.Common.{◌≡◌, drop}
use Rattle.unit_identity.specs.WellFormed.{holes_of, rising_after}
use Rattle.unit_identity.proofs.well_formed.do_holes_rise_after.Given as goal

abbrev pub invariant-loop-each : goal.invariant-loop-each
invariant-loop-each l = rising_after l.before (holes_of (drop l.each-index l.fills)) ≡ rising_after l.last
    (holes_of l.fills)
