use Rattle.std.proofs.Common.{◌≡◌, ℕ, List, drop}
use Rattle.plain_trees.specs.Plain.{all_known, HasNames}
use Rattle.plain_trees.proofs.modules.all_known.Given as goal

abbrev pub invariant-loop-binding : goal.invariant-loop-binding
invariant-loop-binding l =
    (names : List (List ℕ)) → HasNames l.declared names
    → all_known names (drop l.binding-index l.bindings) ≡ all_known names l.bindings
