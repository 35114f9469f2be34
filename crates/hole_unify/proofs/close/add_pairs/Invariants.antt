use Rattle.std.proofs.Common.{◌≡◌, ◌++◌, drop}
use Rattle.hole_unify.specs.Close.{fills_numbers}
use Rattle.hole_unify.proofs.close.add_pairs.Given as goal

abbrev pub invariant-loop-each : goal.invariant-loop-each
invariant-loop-each l = l.pending.items ++ fills_numbers l.ours l.theirs
    (drop l.each-index l.ours) ≡ l.initial.pending.items ++ fills_numbers l.ours l.theirs l.ours
