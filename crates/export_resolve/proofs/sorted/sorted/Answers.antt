use Rattle.std.proofs.Common.{ap, ◌∙◌}
use Rattle.std.specs.Map.{values_of}
use Rattle.import_resolve.specs.Exports.{sorted}
use Rattle.export_resolve.proofs.SortLemmas.{values_tagged}
use Rattle.export_resolve.proofs.sorted.sorted.Goals as goal

pub loop-export-init : goal.loop-export-init
loop-export-init c =
    rw c.new-all.ensures (ap values_of c.in_ok-table.ensures ∙ values_tagged (sorted c.args.exports))
