use Rattle.std.proofs.Common.{◌≡◌, ◌<◌, length}
use Rattle.type_unify.specs.Cells.{at, trees, hops, seen}
use Rattle.type_unify.proofs.walk.walk.Given as goal

abbrev pub invariant-loop-next : goal.invariant-loop-next
invariant-loop-next l = record {
  within : l.here < length l.cells;
  same : seen l.cells l.entries.entries l.here ≡ seen l.cells l.entries.entries l.start;
}

abbrev pub decreases-loop-next : goal.decreases-loop-next
decreases-loop-next l = hops l.cells l.entries.entries (at (trees l.cells) l.here)
