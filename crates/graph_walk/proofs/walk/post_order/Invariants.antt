use Rattle.std.specs.Prelude.{reverse}
use Rattle.graph_walk.specs.Walking.{IsOnWay}
use Rattle.graph_walk.proofs.PendingLemmas.{steps-left}
use Rattle.graph_walk.proofs.walk.post_order.Given as goal

abbrev pub invariant-steps : goal.invariant-steps
invariant-steps l = IsOnWay l.nodes l.starts (reverse l.pending) l.walked

abbrev pub decreases-steps : goal.decreases-steps
decreases-steps l = steps-left l.nodes (reverse l.pending) l.walked
