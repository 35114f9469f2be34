use Rattle.std.proofs.Common.{◌≡◌, ◌++◌, length}
use Rattle.std.specs.Map.{values_of}
use Rattle.import_resolve.specs.Exports.{sorted}
use Rattle.export_resolve.proofs.sorted.sorted.Given as goal

abbrev pub invariant-loop-export : goal.invariant-loop-export
invariant-loop-export l = l.all ++ values_of l.table.entries ≡ sorted l.fn.exports

abbrev pub decreases-loop-export : goal.decreases-loop-export
decreases-loop-export l = length l.table.entries
