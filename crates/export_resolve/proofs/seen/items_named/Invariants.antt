use Rattle.std.proofs.Common.{◌≡◌, ◌++◌, List, ℕ, drop}
use Rattle.export_resolve.specs.Named.{all_at, items_named}
use Rattle.export_resolve.proofs.seen.items_named.Given as goal

abbrev pub invariant-loop-item : goal.invariant-loop-item
invariant-loop-item l =
    (q : List ℕ) → all_at l.table q ++ items_named (drop l.item-index l.items) q ≡ items_named l.items q
