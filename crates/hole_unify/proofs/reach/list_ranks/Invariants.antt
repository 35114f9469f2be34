use Rattle.std.proofs.Common.{◌≡◌, length}
use Rattle.hole_unify.proofs.reach.list_ranks.Given as goal

abbrev pub invariant-loop-place : goal.invariant-loop-place
invariant-loop-place l = length l.ranks.items ≡ l.count
