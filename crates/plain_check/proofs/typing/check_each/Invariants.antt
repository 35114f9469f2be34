use Rattle.std.proofs.Common.{◌≡◌, ◌+◌, List, take}
use Rattle.plain_check.specs.Typing.{assumptions_of, AreTyped}
use Rattle.plain_check.specs.Arities.{HoldsArrows}
use Rattle.plain_check.proofs.typing.check_each.Given as goal
use Rattle.hs_plain.specs.declared.plain.Binding.{Binding}

abbrev pub invariant-loop-place : goal.invariant-loop-place
invariant-loop-place g l =
    ((all : List Binding) → HoldsArrows l.table all → AreTyped (assumptions_of all) (take l.place l.bindings))
    × (l.steps ≡ l.fn.steps + l.place)
