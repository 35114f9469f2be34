use Rattle.std.proofs.Common.{◌≡◌, drop}
use Rattle.hole_unify.specs.Table.{nodes_of}
use Rattle.hole_unify.specs.Close.{module_at}
use Rattle.hole_unify.proofs.close.find_module.Given as goal

abbrev pub invariant-loop-number : goal.invariant-loop-number
invariant-loop-number l = module_at l.class (nodes_of (drop l.number l.table) (drop l.number l.classes)) ≡ module_at
    l.class (nodes_of l.table l.classes)
