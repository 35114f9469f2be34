use Rattle.std.proofs.Common.{◌≤◌, length, drop}
use Rattle.hole_unify.proofs.ListingLemmas.{IsListed}
use Rattle.hole_unify.proofs.numbers.list_pairs.Given as goal

abbrev pub invariant-loop-place : goal.invariant-loop-place
invariant-loop-place l = IsListed (drop l.place l.equations) l.table l.pairs.items × (l.place ≤ length l.equations)

abbrev pub decreases-loop-place : goal.decreases-loop-place
decreases-loop-place l = l.place
