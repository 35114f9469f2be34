use Rattle.std.proofs.Common.{refl}
use Rattle.std.proofs.lemmas.Result.{err_from_is_err_and}
use Rattle.std.specs.Prelude.{length}
use Rattle.type_equations.specs.States.{state_of}
use Rattle.infer_patterns.proofs.ArmLemmas.{on_ok}
use Rattle.infer_expressions.proofs.ArmLemmas.{explained, explains_failure}
use Rattle.infer_clauses.proofs.ClauseLemmas.{clause_function_err, clause_patterns_err, clause_ok, clause_side_err}
use Rattle.infer_clauses.proofs.infer_clause.Goals as goal

pub returns-in_err-own-clause-err : goal.returns-in_err-own-clause-err
returns-in_err-own-clause-err c =
    let p = err_from_is_err_and c.from_residual.result c.from_residual.ensures.1 in
    rw p.1 (explains_failure _ p.0 p.2 (λ z. clause_function_err c.args.names.now c.args.env.now
    (state_of c.args.state.now) c.args.pats.now c.args.rhs.now c.args.wanted (length c.args.pats.now) refl
    (c.in_err-own.ensures.none z)))

pub returns-in_err-infer_pats-clause-err : goal.returns-in_err-infer_pats-clause-err
returns-in_err-infer_pats-clause-err c =
    let p = err_from_is_err_and c.from_residual-in_err-infer_pats.result c.from_residual-in_err-infer_pats.ensures.1 in
    rw p.1 (explains_failure _ p.0 p.2 (λ z. clause_patterns_err c.args.names.now c.args.env.now c.args.state.now
    (state_of c.enter_function.new.state)
    c.args.pats.now c.args.rhs.now c.args.wanted (length c.args.pats.now) c.in_ok-own.own c.in_ok-own.parts.items
    c.as_slice.result.now c.in_ok-own.ensures.own c.in_ok-own.ensures.parts c.as_slice.ensures.value refl
    c.in_ok-own.ensures.ok
    (c.in_err-infer_pats.ensures.none z)))

pub returns-clause-ok : goal.returns-clause-ok
returns-clause-ok c = on_ok c.infer_side.result (λ h. clause_ok c.args.names.now c.args.env.now c.args.state.now
    (state_of c.enter_function.new.state)
    c.args.pats.now c.args.rhs.now c.args.wanted (length c.args.pats.now) c.in_ok-own.own c.in_ok-own.parts.items
    c.as_slice.result.now c.in_ok-own.ensures.own c.in_ok-own.ensures.parts c.as_slice.ensures.value refl
    c.in_ok-own.ensures.ok
    c.new-binders.result.items c.infer_pats.new.binders.items c.in_ok-scope.scope.items c.as_slice-2.result.now
    (state_of c.infer_pats.new.state) (state_of c.infer_side.new.state)
    c.new-binders.ensures.items c.in_ok-scope.ensures c.as_slice-2.ensures.value c.in_ok-infer_pats.ensures.ok h)
    c.infer_side.ensures.ok

pub returns-clause-err : goal.returns-clause-err
returns-clause-err c = explained c.infer_side.result (λ h. clause_side_err c.args.names.now c.args.env.now
    c.args.state.now (state_of c.enter_function.new.state)
    c.args.pats.now c.args.rhs.now c.args.wanted (length c.args.pats.now) c.in_ok-own.own c.in_ok-own.parts.items
    c.as_slice.result.now c.in_ok-own.ensures.own c.in_ok-own.ensures.parts c.as_slice.ensures.value refl
    c.in_ok-own.ensures.ok
    c.new-binders.result.items c.infer_pats.new.binders.items c.in_ok-scope.scope.items c.as_slice-2.result.now
    (state_of c.infer_pats.new.state)
    c.new-binders.ensures.items c.in_ok-scope.ensures c.as_slice-2.ensures.value c.in_ok-infer_pats.ensures.ok h)
    (λ h. h) c.infer_side.ensures.err
