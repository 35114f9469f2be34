use Rattle.std.proofs.Common.{take}
use Rattle.type_unify.specs.Taken.{IsLonger}
use Rattle.type_unify.proofs.TakingLemmas.{Reading}
use Rattle.type_unify.proofs.take_in.take_in.Given as goal

abbrev pub invariant-loop-node : goal.invariant-loop-node
invariant-loop-node l = record {
  reading : Reading l.fn.cells.items l.cells.items (take l.node-index l.nodes) l.stack.items;
  longer : IsLonger l.fn.cells.items l.cells.items;
}
