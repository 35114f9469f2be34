use Rattle.std.proofs.Common.{◌≡◌, drop}
use Rattle.unit_identity.specs.Fill.{found}
use Rattle.unit_identity.proofs.filling.filler.Given as goal

abbrev pub invariant-loop-each : goal.invariant-loop-each
invariant-loop-each l = found l.hole (drop l.each-index l.fills) ≡ found l.hole l.fills
