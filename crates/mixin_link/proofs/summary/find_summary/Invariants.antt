use Rattle.std.proofs.Common.{◌≡◌, drop}
use Rattle.mixin_link.specs.Summaries.{found_summary}
use Rattle.mixin_link.proofs.summary.find_summary.Given as goal

abbrev pub invariant-loop-each : goal.invariant-loop-each
invariant-loop-each l = found_summary l.dep (drop l.each-index l.summaries) ≡ found_summary l.dep l.summaries
