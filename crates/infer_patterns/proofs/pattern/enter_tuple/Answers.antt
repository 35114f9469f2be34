use Rattle.std.proofs.Common.{ap, ◌∙◌}
use Rattle.std.proofs.lemmas.List.FromFn.{length-range_with_len}
use Rattle.std.proofs.lemmas.Result.{err_from_is_err_and}
use Rattle.std.specs.Prelude.{length}
use Rattle.type_equations.specs.States.{state_of}
use Rattle.infer_patterns.proofs.HeadLemmas.{tuple_head_ok, tuple_head_err}
use Rattle.infer_patterns.proofs.pattern.enter_tuple.Goals as goal

pub returns-in_err-equate-clause-none : goal.returns-in_err-equate-clause-none
returns-in_err-equate-clause-none c =
    let p = err_from_is_err_and c.from_residual-in_err-equate.result c.from_residual-in_err-equate.ensures.1 in
    rw (p.1, p.2) (λ z. tuple_head_err c.args.state.now c.stars.new.self c.args.wanted c.args.many
    c.in_ok-parts.parts.items c.as_slice.result.now c.in_ok-own.own c.in_ok-ty.ty c.if-many-gt15.false
    c.if-many-eq1.false c.in_ok-parts.ensures.same c.in_ok-parts.ensures.kinds c.in_ok-parts.ensures.ids
    c.as_slice.ensures.value c.in_ok-own.ensures c.in_ok-ty.ensures (c.in_err-equate.ensures.none z))

pub returns-clause-ok : goal.returns-clause-ok
returns-clause-ok c = tuple_head_ok c.args.state.now c.stars.new.self (state_of c.equate.new.self) c.args.wanted
    c.args.many c.in_ok-parts.parts.items c.as_slice.result.now c.in_ok-own.own c.in_ok-ty.ty c.if-many-gt15.false
    c.if-many-eq1.false c.in_ok-parts.ensures.same c.in_ok-parts.ensures.kinds c.in_ok-parts.ensures.ids
    c.as_slice.ensures.value c.in_ok-own.ensures c.in_ok-ty.ensures c.in_ok-equate.ensures.ok

pub returns-clause-many : goal.returns-clause-many
returns-clause-many c = ap length c.in_ok-parts.ensures.ids ∙ length-range_with_len
    (length c.args.state.now.kinds.items)
    c.args.many
