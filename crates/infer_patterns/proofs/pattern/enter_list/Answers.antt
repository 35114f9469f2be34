use Rattle.std.proofs.lemmas.Result.{err_from_is_err_and}
use Rattle.type_equations.specs.States.{state_of}
use Rattle.infer_patterns.proofs.HeadLemmas.{list_head_ok, list_head_err}
use Rattle.infer_patterns.proofs.pattern.enter_list.Goals as goal

pub returns-in_err-equate-clause-none : goal.returns-in_err-equate-clause-none
returns-in_err-equate-clause-none c =
    let p = err_from_is_err_and c.from_residual-in_err-equate.result c.from_residual-in_err-equate.ensures.1 in
    rw (p.1, p.2) (λ z. list_head_err c.args.state.now c.fresh.new.self c.args.wanted c.in_ok-item.item
    c.in_ok-own.own c.in_ok-flex.field-0 c.in_ok-ty.ty c.in_ok-item.ensures.same c.in_ok-item.ensures.kinds
    c.in_ok-item.ensures.first c.in_ok-own.ensures c.in_ok-flex.ensures c.in_ok-ty.ensures
    (c.in_err-equate.ensures.none z))

pub returns-clause-ok : goal.returns-clause-ok
returns-clause-ok c = list_head_ok c.args.state.now c.fresh.new.self (state_of c.equate.new.self) c.args.wanted
    c.in_ok-item.item c.in_ok-own.own c.in_ok-flex.field-0 c.in_ok-ty.ty c.in_ok-item.ensures.same
    c.in_ok-item.ensures.kinds c.in_ok-item.ensures.first c.in_ok-own.ensures c.in_ok-flex.ensures c.in_ok-ty.ensures
    c.in_ok-equate.ensures.ok
