use Rattle.std.specs.Prelude.{reverse}
use Rattle.hs_core.specs.Walking.{IsOnWay}
use Rattle.hs_core.proofs.PendingLemmas.{steps-left}
use Rattle.hs_core.proofs.group.walk.Given as goal

abbrev pub invariant-steps : goal.invariant-steps
invariant-steps l = IsOnWay l.uses l.starts l.fn.walked.done (reverse l.pending) l.walked

abbrev pub decreases-steps : goal.decreases-steps
decreases-steps l = steps-left l.uses (reverse l.pending) l.walked
