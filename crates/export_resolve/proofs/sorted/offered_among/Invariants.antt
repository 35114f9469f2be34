use Rattle.std.proofs.Common.{◌≡◌, ◌++◌, drop}
use Rattle.export_resolve.specs.Named.{all_at}
use Rattle.export_resolve.specs.Whole.{offered_among}
use Rattle.export_resolve.proofs.sorted.offered_among.Given as goal

abbrev pub invariant-loop-con : goal.invariant-loop-con
invariant-loop-con l =
    l.names ++ offered_among (all_at l.owners) l.of (drop l.con-index l.cons)
    ≡ offered_among (all_at l.owners) l.of l.cons
