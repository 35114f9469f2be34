use Rattle.kind_check.specs.Scopes.{known_names}
use Rattle.kind_order.proofs.OrderLemmas.{gone-more, gone-ill}
use Rattle.kind_order.proofs.order.kinds_in_order.Goals as goal

pub returns-in-Err-clause-err : goal.returns-in-Err-clause-err
returns-in-Err-clause-err c =
    gone-ill (known_names c.args.env.names) c.args.groups.now c.loop-index.index c.loop-index.all
    c.index-groups-index.result c.index-groups-index.result c.loop-index.names c.in-Err.error c.loop-index-test.true
    c.index-groups-index.is c.loop-index.invariant c.in-Err.ensures.err

pub loop-index-preserved : goal.loop-index-preserved
loop-index-preserved c =
    gone-more (known_names c.args.env.names) c.args.groups.now c.loop-index.index c.loop-index.all c.next_group.new.all
    c.index-groups-index.result c.index-groups-index.result c.loop-index.names c.in-Ok.more c.loop-index-test.true
    c.index-groups-index.is c.loop-index.invariant c.in-Ok.ensures.ok
