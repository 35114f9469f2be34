use Rattle.std.proofs.Common.{◌≡◌, length, List}
use Rattle.bp_base.specs.declared.entity.Export.{Export}
use Rattle.import_resolve.specs.Exports.{sorted}
use Rattle.export_resolve.specs.Sorting.{put_in, tagged}
use Rattle.export_resolve.proofs.sorted.by_key.Given as goal

abbrev pub invariant-loop-export : goal.invariant-loop-export
invariant-loop-export l =
    (into : List Export) × (l.table.entries ≡ tagged into) × (put_in l.rest into ≡ sorted l.fn.exports)

abbrev pub decreases-loop-export : goal.decreases-loop-export
decreases-loop-export l = length l.rest
