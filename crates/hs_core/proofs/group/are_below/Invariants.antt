use Rattle.std.proofs.Common.{take}
use Rattle.hs_core.specs.Walking.{AreBelow}
use Rattle.hs_core.proofs.group.are_below.Given as goal

abbrev pub invariant-loop-index : goal.invariant-loop-index
invariant-loop-index l = AreBelow l.count (take l.index-index l.indices)
