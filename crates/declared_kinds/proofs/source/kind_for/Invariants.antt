use Rattle.std.proofs.Common.{◌≡◌, drop}
use Rattle.declared_kinds.specs.Sources.{kind_for}
use Rattle.declared_kinds.proofs.source.kind_for.Given as goal

abbrev pub invariant-loop-index : goal.invariant-loop-index
invariant-loop-index l = kind_for l.members l.kinds l.number
    ≡ kind_for (drop l.index l.members) (drop l.index l.kinds) l.number
