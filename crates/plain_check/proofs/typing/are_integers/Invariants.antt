use Rattle.std.proofs.Common.{◌≡◌, List, drop}
use Rattle.std.specs.List.{list_all}
use Rattle.plain_check.specs.Arities.{HoldsArrows, is_integer}
use Rattle.plain_check.proofs.typing.are_integers.Given as goal
use Rattle.hs_plain.specs.declared.plain.Binding.{Binding}

abbrev pub invariant-loop-atom : goal.invariant-loop-atom
invariant-loop-atom l =
    (bindings : List Binding) → HoldsArrows l.table bindings
    → list_all (is_integer bindings l.args) (drop l.atom-index l.atoms) ≡ list_all
    (is_integer bindings l.args) l.atoms
