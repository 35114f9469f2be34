use Rattle.std.proofs.Common.{◌≡◌, map, take}
use Rattle.hole_unify.specs.Reach.{ends_upto}
use Rattle.hole_unify.proofs.reach.list_ends.Given as goal

abbrev pub invariant-loop-edge : goal.invariant-loop-edge
invariant-loop-edge l = map (λ v. v.items) l.ends.items ≡ ends_upto l.count (take l.edge-index l.edges)
