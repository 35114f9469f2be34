use Rattle.std.proofs.Common.{◌≡◌, ◌++◌, drop}
use Rattle.type_groups.proofs.chosen.copied_cons.Given as goal

abbrev pub invariant-loop-each : goal.invariant-loop-each
invariant-loop-each l = l.all ++ drop l.each-index l.each-items ≡ l.cons
