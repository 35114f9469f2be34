use Rattle.std.proofs.lemmas.Result.{err_from_is_err_and}
use Rattle.type_equations.specs.States.{state_of}
use Rattle.infer_expressions.proofs.EnterLemmas.{test_ok, test_err}
use Rattle.infer_expressions.proofs.heads.enter_test.Goals as goal

pub returns-in_err-equate-clause-none : goal.returns-in_err-equate-clause-none
returns-in_err-equate-clause-none c =
    let p = err_from_is_err_and c.from_residual-in_err-equate.result c.from_residual-in_err-equate.ensures.1 in
    rw (p.1, p.2) (λ z. test_err c.args.state.now c.fresh.new.self c.in_ok-own.own c.in_ok-front.front c.in_ok-ty.ty
    c.in_ok-own.ensures.same c.in_ok-own.ensures.kinds c.in_ok-own.ensures.first c.in_ok-front.ensures
    c.in_ok-ty.ensures (c.in_err-equate.ensures.none z))

pub returns-clause-ok : goal.returns-clause-ok
returns-clause-ok c = test_ok c.args.state.now c.fresh.new.self (state_of c.equate.new.self) c.in_ok-own.own
    c.in_ok-front.front c.in_ok-ty.ty c.in_ok-own.ensures.same c.in_ok-own.ensures.kinds c.in_ok-own.ensures.first
    c.in_ok-front.ensures c.in_ok-ty.ensures c.in_ok-equate.ensures.ok
