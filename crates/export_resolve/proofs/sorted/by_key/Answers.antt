use Rattle.std.proofs.Common.{[], sym, ap, ◌∙◌}
use Rattle.import_resolve.specs.Exports.{inserted}
use Rattle.export_resolve.specs.Sorting.{put_in}
use Rattle.export_resolve.proofs.SortLemmas.{put_all, put_last}
use Rattle.export_resolve.proofs.sorted.by_key.Goals as goal

pub loop-export-init : goal.loop-export-init
loop-export-init c = ([], c.new-table.ensures.empty, put_all c.args.exports)

pub loop-export-preserved : goal.loop-export-preserved
loop-export-preserved c = (
  inserted c.in-Some.export c.loop-export.invariant.0,
  c.in_ok-put_in.ensures c.loop-export.invariant.0 c.loop-export.invariant.1,
  sym (put_last c.pop.new.self c.in-Some.export c.loop-export.invariant.0)
      ∙ (ap (λ es. put_in es c.loop-export.invariant.0) (sym c.in-Some.ensures) ∙ c.loop-export.invariant.2),
)
