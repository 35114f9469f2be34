use Rattle.std.proofs.Common.{◌≡◌, drop}
use Rattle.hole_unify.specs.Numbers.{number_at}
use Rattle.hole_unify.proofs.lookup.filler.Given as goal

abbrev pub invariant-loop-each : goal.invariant-loop-each
invariant-loop-each l = number_at l.hole (drop l.each-index l.fills) ≡ number_at l.hole l.fills
