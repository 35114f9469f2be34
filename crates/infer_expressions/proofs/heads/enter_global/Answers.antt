use Rattle.type_equations.specs.States.{state_of}
use Rattle.infer_patterns.proofs.ArmLemmas.{on_ok, if_err}
use Rattle.infer_expressions.proofs.EnterLemmas.{global_ok, global_err, global_unknown}
use Rattle.infer_expressions.proofs.heads.enter_global.Goals as goal

pub returns-in_default-clause-none : goal.returns-in_default-clause-none
returns-in_default-clause-none c = λ z. global_unknown c.args.names.now c.args.env.now (state_of c.args.state.now)
    c.args.name.now c.args.wanted c.in_default.ensures.none

pub returns-clause-ok : goal.returns-clause-ok
returns-clause-ok c = on_ok c.equate.result
    (λ h. global_ok c.args.names.now c.args.env.now c.args.state.now c.instance_with.new.state
    (state_of c.equate.new.self) c.args.name.now c.args.wanted c.in-Some.declared.now c.in_ok-own.own c.in_ok-ty.ty
    c.in-Some.ensures.some c.in-Some.ensures.same c.in_ok-own.ensures.same c.in_ok-own.ensures.kinds
    c.in_ok-own.ensures.own c.in_ok-ty.ensures h) c.equate.ensures.ok

pub returns-clause-none : goal.returns-clause-none
returns-clause-none c = if_err c.equate.result
    (λ h. global_err c.args.names.now c.args.env.now c.args.state.now c.instance_with.new.state c.args.name.now
    c.args.wanted c.in-Some.declared.now c.in_ok-own.own c.in_ok-ty.ty c.in-Some.ensures.some c.in-Some.ensures.same
    c.in_ok-own.ensures.same c.in_ok-own.ensures.kinds c.in_ok-own.ensures.own c.in_ok-ty.ensures h)
    c.equate.ensures.none
