use Rattle.std.proofs.Common.{◌≡◌, drop}
use Rattle.hole_unify.specs.Table.{nodes_of}
use Rattle.hole_unify.specs.Build.{has_module}
use Rattle.hole_unify.proofs.build.class_has_module.Given as goal

abbrev pub invariant-loop-number : goal.invariant-loop-number
invariant-loop-number l = has_module l.class (drop l.number (nodes_of l.table l.classes)) ≡ has_module l.class
    (nodes_of l.table l.classes)
