use Rattle.std.proofs.Common.{take}
use Rattle.plain_check.specs.Arities.{HoldsArrows}
use Rattle.plain_check.proofs.typing.arrows_of.Given as goal

abbrev pub invariant-loop-binding : goal.invariant-loop-binding
invariant-loop-binding l = HoldsArrows l.table (take l.binding-index l.bindings)
