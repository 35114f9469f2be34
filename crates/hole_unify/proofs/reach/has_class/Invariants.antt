use Rattle.std.proofs.Common.{◌≡◌, drop}
use Rattle.hole_unify.specs.Reach.{holds}
use Rattle.hole_unify.proofs.reach.has_class.Given as goal

abbrev pub invariant-loop-each : goal.invariant-loop-each
invariant-loop-each l = holds l.class (drop l.each-index l.classes) ≡ holds l.class l.classes
