use Rattle.std.proofs.Common.{◌≡◌, ◌∷◌, take}
use Rattle.plain_trees.specs.Plain.{names_of_pats}
use Rattle.plain_trees.proofs.patterns.names_of_pats.Given as goal

abbrev pub invariant-loop-pat : goal.invariant-loop-pat
invariant-loop-pat l = l.names ≡ names_of_pats (l.first ∷ take l.pat-index l.rest)
