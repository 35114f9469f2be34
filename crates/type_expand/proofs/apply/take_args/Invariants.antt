use Rattle.type_expand.specs.Expanding.{stacked_types}
use Rattle.type_expand.proofs.TypeLemmas.{Taken}
use Rattle.type_expand.proofs.apply.take_args.Given as goal

abbrev pub invariant-loop-index : goal.invariant-loop-index
invariant-loop-index l = Taken (stacked_types l.fn.args) l._index l.front l.args
