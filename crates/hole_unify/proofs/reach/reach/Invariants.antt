use Rattle.std.proofs.Common.{◌≡◌, ◌+◌, ◌-◌, length, map}
use Rattle.hole_unify.specs.Reach.{Agree, free}
use Rattle.hole_unify.proofs.SearchingLemmas.{IsSearch}
use Rattle.hole_unify.proofs.reach.reach.Given as goal

abbrev pub invariant-classes : goal.invariant-classes
invariant-classes l =
    IsSearch (map (λ v. v.items) l.ends) l.start l.done.items l.next × Agree l.marks l.done.items
    × (length l.marks ≡ length l.ends) × (free l.marks + length l.done.items ≡ length l.ends)

abbrev pub decreases-classes : goal.decreases-classes
decreases-classes l = length l.ends - l.next
