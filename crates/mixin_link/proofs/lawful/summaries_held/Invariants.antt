use Rattle.std.proofs.Common.{◌≡◌, drop}
use Rattle.mixin_link.specs.Summaries.{summaries_held}
use Rattle.mixin_link.proofs.lawful.summaries_held.Given as goal

abbrev pub invariant-loop-summary : goal.invariant-loop-summary
invariant-loop-summary l =
    summaries_held (drop l.summary-index l.summaries) ≡ summaries_held l.summaries
