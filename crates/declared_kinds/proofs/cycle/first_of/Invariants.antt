use Rattle.std.proofs.Common.{ℕ, take}
use Rattle.bp_base.specs.Lists.{Among}
use Rattle.declared_kinds.specs.Cycles.{IsOnCycle}
use Rattle.declared_kinds.proofs.cycle.first_of.Given as goal

abbrev pub invariant-loop-index : goal.invariant-loop-index
invariant-loop-index l = (n : ℕ) → Among n (take l.index l.numbers) → IsOnCycle l.uses n → ⊥
