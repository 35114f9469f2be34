use Rattle.std.proofs.Common.{◌≡◌, drop}
use Rattle.hole_unify.specs.Stages.{numbers_built, numbers_fronted}
use Rattle.hole_unify.proofs.build.build_fills.Given as goal

abbrev pub invariant-loop-each : goal.invariant-loop-each
invariant-loop-each l = numbers_fronted l.all (numbers_built l.classes l.built (drop l.each-index l.fills)) ≡
    numbers_built l.classes l.built l.fills
