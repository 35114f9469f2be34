use Rattle.hs_expressions.proofs.steps.run.Given as goal

abbrev pub invariant-steps : goal.invariant-steps
invariant-steps g l = g.S.Steps.holds l.fn.limit l.lone l.tokens l.state

abbrev pub decreases-steps : goal.decreases-steps
decreases-steps g l = g.S.Steps.left l.state
