use Rattle.std.proofs.Common.{◌≡◌, take}
use Rattle.type_unify.proofs.term.copied_nodes.Given as goal

abbrev pub invariant-loop-node : goal.invariant-loop-node
invariant-loop-node l = l.copy.items ≡ take l.node-index l.nodes
