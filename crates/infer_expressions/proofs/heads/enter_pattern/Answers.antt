use Rattle.type_equations.specs.States.{state_of}
use Rattle.infer_expressions.proofs.ScopeLemmas.{pattern_seen}
use Rattle.infer_expressions.proofs.heads.enter_pattern.Goals as goal

pub returns-clause-ok : goal.returns-clause-ok
returns-clause-ok c = pattern_seen c.args.names.now c.args.env.now c.new-binders.result.items
    c.infer_pat.new.binders.items c.in_ok-scope.scope.items (state_of c.args.state.now) (state_of c.infer_pat.new.state)
    c.args.pat.now c.args.of c.new-binders.ensures.items c.in_ok-scope.ensures c.in_ok-infer_pat.ensures.ok
