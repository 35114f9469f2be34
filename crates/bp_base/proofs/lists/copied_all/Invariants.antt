use Rattle.std.proofs.Common.{◌≡◌, ◌++◌, drop}
use Rattle.bp_base.proofs.lists.copied_all.Given as goal

abbrev pub invariant-loop-each : goal.invariant-loop-each
invariant-loop-each g l = l.all ++ drop l.each-index l.each-items ≡ l.items
