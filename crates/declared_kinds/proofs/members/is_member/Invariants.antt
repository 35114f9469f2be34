use Rattle.std.proofs.Common.{take}
use Rattle.bp_base.specs.Lists.{Among}
use Rattle.declared_kinds.proofs.members.is_member.Given as goal

abbrev pub invariant-loop-each : goal.invariant-loop-each
invariant-loop-each l = Among l.number (take l.each-index l.numbers) → ⊥
