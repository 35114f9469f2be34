use Rattle.std.proofs.Common.{ap, ◌∙◌, ◌+◌}
use Rattle.std.proofs.lemmas.List.FromFn.{length-range_with_len}
use Rattle.std.proofs.lemmas.Result.{err_from_is_err_and}
use Rattle.std.specs.Prelude.{length}
use Rattle.type_equations.specs.States.{state_of}
use Rattle.infer_expressions.proofs.EnterLemmas.{function_ok, function_err}
use Rattle.infer_expressions.proofs.heads.enter_function.Goals as goal

pub returns-in_err-equate-clause-none : goal.returns-in_err-equate-clause-none
returns-in_err-equate-clause-none c =
    let p = err_from_is_err_and c.from_residual-in_err-equate.result c.from_residual-in_err-equate.ensures.1 in
    rw (p.1, p.2) (λ z. function_err c.args.state.now c.function_unknowns.new.state c.args.wanted c.args.many
    c.in_ok-own.own
    c.in_ok-own.parts.items c.as_slice.result.now c.in_ok-front.front c.in_ok-result.result c.in_ok-ty.ty
    c.in_ok-own.ensures.same c.in_ok-own.ensures.kinds c.in_ok-own.ensures.own c.in_ok-own.ensures.parts
    c.as_slice.ensures.value c.in_ok-front.ensures c.in_ok-result.ensures c.in_ok-ty.ensures
    (c.in_err-equate.ensures.none z))

pub returns-clause-ok : goal.returns-clause-ok
returns-clause-ok c = function_ok c.args.state.now c.function_unknowns.new.state (state_of c.equate.new.self)
    c.args.wanted
    c.args.many c.in_ok-own.own c.in_ok-own.parts.items c.as_slice.result.now c.in_ok-front.front c.in_ok-result.result
    c.in_ok-ty.ty c.in_ok-own.ensures.same c.in_ok-own.ensures.kinds c.in_ok-own.ensures.own c.in_ok-own.ensures.parts
    c.as_slice.ensures.value c.in_ok-front.ensures c.in_ok-result.ensures c.in_ok-ty.ensures c.in_ok-equate.ensures.ok

pub returns-clause-many : goal.returns-clause-many
returns-clause-many c = ap length c.in_ok-own.ensures.parts
    ∙ length-range_with_len (length c.args.state.now.kinds.items + 1) c.args.many
