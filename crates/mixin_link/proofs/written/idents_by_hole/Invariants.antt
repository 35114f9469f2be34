use Rattle.std.proofs.Common.{◌≡◌, ◌≤◌, List, ℕ, length, drop}
use Rattle.std.specs.HashMap.{get}
use Rattle.std.specs.Str.{bytes_eq}
use Rattle.unit_identity.specs.Fill.{found}
use Rattle.mixin_link.proofs.written.idents_by_hole.Given as goal

abbrev pub invariant-loop-place : goal.invariant-loop-place
invariant-loop-place l = (l.place ≤ length l.fills)
    × ((q : List ℕ) → get bytes_eq l.table q ≡ found q (drop l.place l.fills))

abbrev pub decreases-loop-place : goal.decreases-loop-place
decreases-loop-place l = l.place
