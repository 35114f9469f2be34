use Rattle.std.proofs.Common.{take}
use Rattle.hole_unify.specs.Reach.{Fall}
use Rattle.hole_unify.proofs.reach.do_ranks_fall.Given as goal

abbrev pub invariant-loop-edge : goal.invariant-loop-edge
invariant-loop-edge l = Fall l.ranks (take l.edge-index l.edges)
