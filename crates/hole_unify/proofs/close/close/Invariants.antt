use Rattle.std.proofs.Common.{◌≡◌, length}
use Rattle.hole_unify.specs.Table.{nodes_of}
use Rattle.hole_unify.specs.Close.{pairs_of, ArePairsBelow}
use Rattle.hole_unify.proofs.CloseLemmas.{AreClosing, measure}
use Rattle.hole_unify.proofs.close.close.Given as goal

abbrev pub invariant-steps : goal.invariant-steps
invariant-steps l = (length l.classes ≡ length l.table) × ArePairsBelow (length l.table) l.pending.items
    × AreClosing l.table l.initial.pending.items l.classes l.pending.items

abbrev pub decreases-steps : goal.decreases-steps
decreases-steps l = measure (nodes_of l.table l.classes) (pairs_of l.table l.pending.items)
