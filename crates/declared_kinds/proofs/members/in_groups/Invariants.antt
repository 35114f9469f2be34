use Rattle.std.proofs.Common.{◌≡◌, take}
use Rattle.declared_kinds.specs.Cycles.{in_groups}
use Rattle.declared_kinds.proofs.members.in_groups.Given as goal

abbrev pub invariant-loop-index : goal.invariant-loop-index
invariant-loop-index l = l.all ≡ in_groups (take l.index l.groups)
