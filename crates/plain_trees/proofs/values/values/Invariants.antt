use Rattle.std.proofs.Common.{◌≡◌, Some, None, [], ◌∷◌, take}
use Rattle.std.specs.List.{fold}
use Rattle.plain_trees.specs.Plain.{with_place}
use Rattle.plain_trees.proofs.values.values.Given as goal

abbrev pub invariant-loop-place : goal.invariant-loop-place
invariant-loop-place l =
    l.progress ≡ fold with_place (Some (record { waiting = None; done = [] })) (l.first ∷ take l.place-index l.rest)
