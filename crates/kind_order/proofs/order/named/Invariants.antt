use Rattle.std.proofs.Common.{take}
use Rattle.kind_order.specs.Orders.{IsNamed}
use Rattle.kind_order.proofs.order.named.Given as goal

abbrev pub invariant-loop-index : goal.invariant-loop-index
invariant-loop-index l = IsNamed (take l.index l.decls) (take l.index l.kinds) l.names
