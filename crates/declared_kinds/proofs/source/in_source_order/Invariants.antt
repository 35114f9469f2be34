use Rattle.std.proofs.Common.{◌≡◌, map}
use Rattle.hs_core.specs.Groups.{indices}
use Rattle.declared_kinds.specs.Sources.{source_kind}
use Rattle.declared_kinds.proofs.source.in_source_order.Given as goal

abbrev pub invariant-loop-index : goal.invariant-loop-index
invariant-loop-index l = l.all ≡ map (source_kind l.order l.kinds) (indices l.index)
