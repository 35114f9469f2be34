use Rattle.std.proofs.Common.{◌≡◌, ◌++◌, List, ℕ, drop}
use Rattle.scope_table.specs.Candidates.{candidates_at, candidates_of}
use Rattle.scope_table.proofs.table.names_of.Given as goal

abbrev pub invariant-loop-item : goal.invariant-loop-item
invariant-loop-item l =
    (q : List ℕ) → candidates_at l.names q ++ candidates_of (drop l.item-index l.items) q ≡ candidates_of l.items q
