use Rattle.std.proofs.Common.{◌≡◌, ◌++◌, drop}
use Rattle.hole_unify.specs.Table.{nodes_of}
use Rattle.hole_unify.specs.Reach.{edges_of}
use Rattle.hole_unify.proofs.reach.list_edges.Given as goal

abbrev pub invariant-loop-number : goal.invariant-loop-number
invariant-loop-number l =
    l.edges.items ++ edges_of (nodes_of l.table l.classes) (drop l.number (nodes_of l.table l.classes)) ≡ edges_of
    (nodes_of l.table l.classes) (nodes_of l.table l.classes)
