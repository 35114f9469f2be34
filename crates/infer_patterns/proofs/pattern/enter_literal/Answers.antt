use Rattle.std.proofs.Common.{subst}
use Rattle.type_equations.specs.States.{state_of, Equates, Refuses}
use Rattle.infer_patterns.proofs.EnterLemmas.{literal_entered, literal_refused}
use Rattle.infer_patterns.proofs.ArmLemmas.{on_ok, if_err}
use Rattle.infer_patterns.proofs.pattern.enter_literal.Goals as goal

pub returns-clause-ok : goal.returns-clause-ok
returns-clause-ok c = on_ok c.equate.result
    (λ h. literal_entered (state_of c.args.state.now) (state_of c.equate.new.self) c.args.wanted c.args.ty
    (subst (λ t. Equates (state_of c.args.state.now) (state_of c.equate.new.self) t c.args.ty) c.in_ok-own.ensures h))
    c.equate.ensures.ok

pub returns-clause-none : goal.returns-clause-none
returns-clause-none c = if_err c.equate.result
    (λ h. literal_refused (state_of c.args.state.now) c.args.wanted c.args.ty
    (subst (λ t. Refuses (state_of c.args.state.now) t c.args.ty) c.in_ok-own.ensures h)) c.equate.ensures.none
