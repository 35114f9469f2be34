use Rattle.std.proofs.Common.{◌≡◌, ◌++◌, drop}
use Rattle.std.specs.List.{flat_map}
use Rattle.mixin_link.specs.Summaries.{summary_equations}
use Rattle.mixin_link.proofs.lawful.shown_equations.Given as goal

abbrev pub invariant-loop-summary : goal.invariant-loop-summary
invariant-loop-summary l =
    l.all ++ flat_map summary_equations (drop l.summary-index l.summaries)
    ≡ flat_map summary_equations l.summaries
