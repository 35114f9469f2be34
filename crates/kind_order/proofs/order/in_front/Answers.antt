use Rattle.kind_order.proofs.OrderLemmas.{front_is}
use Rattle.kind_order.proofs.order.in_front.Goals as goal

pub returns : goal.returns
returns c =
    front_is c.as_slice.result.now c.args.group.now.decls c.as_slice-2.result.now c.args.kinds.now c.in_ok-names.names
    c.args.env.names c.append.new.self c.as_slice.ensures c.as_slice-2.ensures c.in_ok-append.ensures
    c.in_ok-names.ensures
