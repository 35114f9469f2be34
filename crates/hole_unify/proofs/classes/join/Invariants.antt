use Rattle.std.proofs.Common.{◌≡◌, ◌++◌, map, take, drop}
use Rattle.hole_unify.specs.Table.{renumbered}
use Rattle.hole_unify.proofs.classes.join.Given as goal

abbrev pub invariant-loop-class : goal.invariant-loop-class
invariant-loop-class l = l.classes ≡ map (renumbered l.from l.to) (take l.class-index l.initial.classes)
    ++ drop l.class-index l.initial.classes
