use Rattle.std.proofs.Common.{take}
use Rattle.declared_kinds.proofs.MemberLemmas.{InSome}
use Rattle.declared_kinds.proofs.cycle.is_on_cycle.Given as goal

abbrev pub invariant-loop-index : goal.invariant-loop-index
invariant-loop-index l = InSome l.number (take l.index l.groups) → ⊥
