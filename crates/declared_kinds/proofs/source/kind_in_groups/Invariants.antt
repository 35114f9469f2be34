use Rattle.std.proofs.Common.{◌≡◌, drop}
use Rattle.declared_kinds.specs.Sources.{kind_in_groups}
use Rattle.declared_kinds.proofs.source.kind_in_groups.Given as goal

abbrev pub invariant-loop-index : goal.invariant-loop-index
invariant-loop-index l = kind_in_groups l.order l.kinds l.number
    ≡ kind_in_groups (drop l.index l.order) (drop l.index l.kinds) l.number
