use Rattle.std.proofs.Common.{ap, ◌∙◌, ◌++◌}
use Rattle.std.proofs.lemmas.List.FromFn.{length-range_with_len}
use Rattle.std.proofs.lemmas.Result.{err_from_is_err_and}
use Rattle.std.specs.Prelude.{length}
use Rattle.type_equations.specs.States.{state_of}
use Rattle.infer_patterns.proofs.ConEnterLemmas.{con_unknown, con_fields}
use Rattle.infer_patterns.proofs.HeadLemmas.{con_head_ok, con_head_err}
use Rattle.infer_patterns.proofs.pattern.enter_con.Goals as goal

pub returns-in_default-clause-none : goal.returns-in_default-clause-none
returns-in_default-clause-none c = λ z. con_unknown c.args.names.now (state_of c.args.state.now) c.args.name.now
    c.args.wanted c.args.many c.in_default.ensures.none

pub returns-then-fields-many-clause-none : goal.returns-then-fields-many-clause-none
returns-then-fields-many-clause-none c = λ z. con_fields c.args.names.now (state_of c.args.state.now) c.args.name.now
    c.args.wanted c.args.many c.in-Some-fields.fields c.in-Some.declared.now c.in-Some.ensures.some
    c.in-Some.ensures.same c.in-Some-fields.is c.if-fields-many.true

pub returns-in_err-equate-clause-none : goal.returns-in_err-equate-clause-none
returns-in_err-equate-clause-none c =
    let p = err_from_is_err_and c.from_residual-in_err-equate.result c.from_residual-in_err-equate.ensures.1 in
    rw (p.1, p.2) (λ z. con_head_err c.args.names.now c.args.state.now c.instance_with.new.state c.args.name.now
    c.args.wanted c.args.many c.in-Some-fields.fields c.in_ok-own.parts.items c.as_slice.result.now
    c.in-Some.declared.now c.in_ok-own.own c.in_ok-result.result c.in_ok-ty.ty c.in-Some.ensures.some
    c.in-Some.ensures.same c.in-Some-fields.is c.if-fields-many.false c.in_ok-own.ensures.same
    c.in_ok-own.ensures.kinds c.in_ok-own.ensures.parts c.as_slice.ensures.value c.in_ok-own.ensures.own
    c.in_ok-result.ensures c.in_ok-ty.ensures (c.in_err-equate.ensures.none z))

pub returns-clause-ok : goal.returns-clause-ok
returns-clause-ok c = con_head_ok c.args.names.now c.args.state.now c.instance_with.new.state
    (state_of c.equate.new.self) c.args.name.now
    c.args.wanted c.args.many c.in-Some-fields.fields c.in_ok-own.parts.items c.as_slice.result.now
    c.in-Some.declared.now c.in_ok-own.own c.in_ok-result.result c.in_ok-ty.ty c.in-Some.ensures.some
    c.in-Some.ensures.same c.in-Some-fields.is c.if-fields-many.false c.in_ok-own.ensures.same
    c.in_ok-own.ensures.kinds c.in_ok-own.ensures.parts c.as_slice.ensures.value c.in_ok-own.ensures.own
    c.in_ok-result.ensures c.in_ok-ty.ensures c.in_ok-equate.ensures.ok

pub returns-clause-many : goal.returns-clause-many
returns-clause-many c = ap length c.in_ok-own.ensures.parts
    ∙ length-range_with_len (length (c.args.state.now.kinds.items ++ c.in-Some.declared.now.kinds.items)) c.args.many
