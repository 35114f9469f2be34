use Rattle.std.proofs.Common.{◌≡◌, ◌++◌, List, ℕ, drop}
use Rattle.export_resolve.specs.Named.{all_at}
use Rattle.export_resolve.specs.Clashes.{heads_named}
use Rattle.export_resolve.proofs.clashes.heads_named.Given as goal

abbrev pub invariant-loop-thing : goal.invariant-loop-thing
invariant-loop-thing l =
    (q : List ℕ) → all_at l.table q ++ heads_named (drop l.thing-index l.things) q ≡ heads_named l.things q
