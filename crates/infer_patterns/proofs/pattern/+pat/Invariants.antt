use Rattle.type_equations.specs.States.{state_of}
use Rattle.infer_patterns.proofs.RowLemmas.{RowLeft}
use Rattle.infer_patterns.proofs.pattern.+pat.Given as goal

abbrev pub invariant-infer_pats-loop-index : goal.invariant-infer_pats-loop-index
invariant-infer_pats-loop-index l = RowLeft l.names l.pats l.wanted l.index l.fn.binders.items l.binders.items
    (state_of l.fn.state) (state_of l.state)
