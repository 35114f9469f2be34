use Rattle.std.proofs.Common.{◌≡◌, map, drop}
use Rattle.hole_unify.specs.Table.{nodes_of}
use Rattle.hole_unify.specs.Reach.{least_from, hole_cycle, least_cycle}
use Rattle.hole_unify.proofs.reach.search_cycle.Given as goal

abbrev pub invariant-loop-number : goal.invariant-loop-number
invariant-loop-number l =
    least_from l.best (map (hole_cycle l.edges) (drop l.number (nodes_of l.table l.classes))) ≡ least_cycle l.edges
    (nodes_of l.table l.classes)
