use Rattle.std.proofs.Common.{◌≡◌, ◌++◌, List, ℕ, drop}
use Rattle.export_resolve.specs.Named.{all_at, owners_named}
use Rattle.export_resolve.proofs.owners.owners_of.Given as goal

abbrev pub invariant-loop-item : goal.invariant-loop-item
invariant-loop-item l =
    (q : List ℕ) → all_at l.table q ++ owners_named (drop l.item-index l.items) q ≡ owners_named l.items q
