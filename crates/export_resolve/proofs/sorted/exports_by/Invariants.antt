use Rattle.std.proofs.Common.{◌≡◌, ◌++◌, drop}
use Rattle.export_resolve.specs.Named.{all_at}
use Rattle.export_resolve.specs.Whole.{all_exports}
use Rattle.export_resolve.proofs.sorted.exports_by.Given as goal

abbrev pub invariant-loop-thing : goal.invariant-loop-thing
invariant-loop-thing l =
    l.exports ++ all_exports (all_at l.owners) (drop l.thing-index l.things)
    ≡ all_exports (all_at l.owners) l.things
