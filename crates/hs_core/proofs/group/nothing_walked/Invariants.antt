use Rattle.std.proofs.Common.{◌≡◌, false, replicate}
use Rattle.hs_core.proofs.group.nothing_walked.Given as goal

abbrev pub invariant-loop : goal.invariant-loop
invariant-loop l = l.begun ≡ replicate l.counter false
