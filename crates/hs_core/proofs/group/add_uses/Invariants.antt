use Rattle.std.proofs.Common.{take}
use Rattle.hs_core.specs.Walking.{IsUsedBy}
use Rattle.hs_core.proofs.group.add_uses.Given as goal

abbrev pub invariant-loop-used : goal.invariant-loop-used
invariant-loop-used l = IsUsedBy l.initial.users l.users (take l.used-index l.uses) l.user
