use Rattle.std.proofs.Common.{refl}
use Rattle.std.proofs.lemmas.Result.{err_from_is_err_and}
use Rattle.std.specs.Prelude.{length}
use Rattle.type_equations.specs.States.{state_of}
use Rattle.infer_expressions.proofs.ScopeLemmas.{lambda_entered, lambda_patterns_err, lambda_function_err}
use Rattle.infer_expressions.proofs.heads.enter_lambda.Goals as goal

pub returns-in_err-own-clause-none : goal.returns-in_err-own-clause-none
returns-in_err-own-clause-none c =
    let p = err_from_is_err_and c.from_residual.result c.from_residual.ensures.1 in
    rw (p.1, p.2) (λ z. lambda_function_err c.args.names.now c.args.env.now (state_of c.args.state.now) c.args.pats.now
    c.args.wanted (length c.args.pats.now) refl (c.in_err-own.ensures.none z))

pub returns-in_err-infer_pats-clause-none : goal.returns-in_err-infer_pats-clause-none
returns-in_err-infer_pats-clause-none c =
    let p = err_from_is_err_and c.from_residual-in_err-infer_pats.result c.from_residual-in_err-infer_pats.ensures.1 in
    rw (p.1, p.2) (λ z. lambda_patterns_err c.args.names.now c.args.env.now c.args.state.now
    (state_of c.enter_function.new.state) c.args.pats.now c.args.wanted (length c.args.pats.now) c.in_ok-own.own
    c.in_ok-own.parts.items c.as_slice.result.now c.in_ok-own.ensures.own c.in_ok-own.ensures.parts
    c.as_slice.ensures.value refl c.in_ok-own.ensures.ok (c.in_err-infer_pats.ensures.none z))

pub returns-clause-ok : goal.returns-clause-ok
returns-clause-ok c = lambda_entered c.args.names.now c.args.env.now c.args.state.now
    (state_of c.enter_function.new.state) c.args.pats.now c.args.wanted (length c.args.pats.now) c.in_ok-own.own
    c.in_ok-own.parts.items c.as_slice.result.now c.in_ok-own.ensures.own c.in_ok-own.ensures.parts
    c.as_slice.ensures.value refl c.in_ok-own.ensures.ok c.new-binders.result.items c.infer_pats.new.binders.items
    c.in_ok-scope.scope.items (state_of c.infer_pats.new.state) c.new-binders.ensures.items c.in_ok-scope.ensures
    c.in_ok-infer_pats.ensures.ok
