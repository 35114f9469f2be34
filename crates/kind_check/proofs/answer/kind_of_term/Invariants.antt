use Rattle.std.proofs.Common.{◌≡◌, drop, []}
use Rattle.kind_check.specs.Stacks.{stacked, kinds_read}
use Rattle.kind_check.proofs.answer.kind_of_term.Given as goal

abbrev pub invariant-loop-index : goal.invariant-loop-index
invariant-loop-index l = kinds_read (stacked l.kinds) (drop l.index l.nodes) ≡ kinds_read [] l.nodes
