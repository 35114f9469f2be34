use Rattle.kind_check.specs.Scopes.{known_names}
use Rattle.kind_order.proofs.OrderLemmas.{as_many}
use Rattle.kind_order.proofs.order.next_group.Goals as goal

pub in_front-requires : goal.in_front-requires
in_front-requires c = as_many (known_names c.args.env.names) c.args.group.now.decls c.in-Ok.kinds c.in-Ok.ensures.ok
