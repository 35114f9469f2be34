use Rattle.std.proofs.Common.{◌≡◌, true, take}
use Rattle.plain_trees.specs.Plain.{HasNames, are_distinct}
use Rattle.plain_trees.proofs.sets.set_of.Given as goal

abbrev pub invariant-loop-name : goal.invariant-loop-name
invariant-loop-name l =
    HasNames l.set (take l.name-index l.names) × (are_distinct (take l.name-index l.names) ≡ true)
