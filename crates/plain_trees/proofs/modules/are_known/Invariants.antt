use Rattle.std.proofs.Common.{◌≡◌, ℕ, List, drop}
use Rattle.std.specs.List.{list_all}
use Rattle.plain_trees.specs.Plain.{is_known, HasNames}
use Rattle.plain_trees.proofs.modules.are_known.Given as goal

abbrev pub invariant-loop-atom : goal.invariant-loop-atom
invariant-loop-atom l =
    (names : List (List ℕ)) → HasNames l.declared names
    → list_all (is_known names) (drop l.atom-index l.atoms) ≡ list_all (is_known names) l.atoms
