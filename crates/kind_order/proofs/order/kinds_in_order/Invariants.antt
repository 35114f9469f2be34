use Rattle.std.proofs.Common.{take}
use Rattle.kind_check.specs.Scopes.{known_names}
use Rattle.kind_order.proofs.OrderLemmas.{Gone}
use Rattle.kind_order.proofs.order.kinds_in_order.Given as goal

abbrev pub invariant-loop-index : goal.invariant-loop-index
invariant-loop-index l = Gone (known_names l.fn.env.names) (take l.index l.groups) l.all l.names
