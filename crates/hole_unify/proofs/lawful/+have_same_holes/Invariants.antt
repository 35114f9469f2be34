use Rattle.std.proofs.Common.{length}
use Rattle.hole_unify.proofs.lawful.+have_same_holes.Given as goal

abbrev pub decreases-have_same_holes : goal.decreases-have_same_holes
decreases-have_same_holes l = length l.ours.now
