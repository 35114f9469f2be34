use Rattle.std.proofs.Common.{◌≡◌, ◌++◌, List, ℕ, drop}
use Rattle.export_resolve.specs.Named.{all_at}
use Rattle.export_resolve.specs.Whole.{con_owners}
use Rattle.export_resolve.proofs.sorted.con_owners.Given as goal

abbrev pub invariant-loop-thing : goal.invariant-loop-thing
invariant-loop-thing l =
    (q : List ℕ) → all_at l.table q ++ con_owners (drop l.thing-index l.things) q ≡ con_owners l.things q
