use Rattle.std.proofs.Common.{◌≡◌, ◌+◌, length, drop}
use Rattle.hole_unify.specs.Reach.{Agree, free, all_visited}
use Rattle.hole_unify.proofs.reach.visit_all.Given as goal

abbrev pub invariant-loop-end : goal.invariant-loop-end
invariant-loop-end l =
    (all_visited l.done.items (drop l.end-index l.ends) ≡ all_visited l.initial.done.items l.ends)
    × Agree l.marks l.done.items × (length l.marks ≡ length l.initial.marks)
    × (free l.marks + length l.done.items ≡ free l.initial.marks + length l.initial.done.items)
