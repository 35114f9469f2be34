use Rattle.type_equations.specs.States.{state_of}
use Rattle.infer_expressions.proofs.LoopLemmas.{ExpsLeft, AltsLeft, ChoicesLeft}
use Rattle.infer_expressions.proofs.ScopeLemmas.{GuardsLeft}
use Rattle.infer_expressions.proofs.expression.+exp.Given as goal

abbrev pub invariant-infer_exps-loop-index : goal.invariant-infer_exps-loop-index
invariant-infer_exps-loop-index l = ExpsLeft l.names l.env l.exps l.wanted l.index (state_of l.fn.state)
    (state_of l.state)

abbrev pub invariant-infer_alts-loop-index : goal.invariant-infer_alts-loop-index
invariant-infer_alts-loop-index l =
    AltsLeft l.names l.env l.alts l.of l.wanted l.index (state_of l.fn.state) (state_of l.state)

abbrev pub invariant-infer_choices-loop-index : goal.invariant-infer_choices-loop-index
invariant-infer_choices-loop-index l =
    ChoicesLeft l.names l.env l.choices l.wanted l.index (state_of l.fn.state) (state_of l.state)

abbrev pub invariant-infer_guards-loop-index : goal.invariant-infer_guards-loop-index
invariant-infer_guards-loop-index l =
    GuardsLeft l.names l.env l.guards l.index l.scope.items (state_of l.fn.state) (state_of l.state)
