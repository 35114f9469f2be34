use Rattle.std.proofs.Common.{◌∙◌}
use Rattle.declared_kinds.proofs.SourceLemmas.{groups-short}
use Rattle.declared_kinds.proofs.source.kind_in_groups.Goals as goal

pub returns-then-index-kinds-clause-none : goal.returns-then-index-kinds-clause-none
returns-then-index-kinds-clause-none c =
    c.loop-index.invariant
    ∙ groups-short c.args.order.now c.args.kinds.now c.loop-index.index c.args.number c.if-index-kinds.true
