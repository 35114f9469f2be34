use Rattle.std.proofs.Common.{◌+◌, ◌≤◌, ◌<◌, sym, ap, ◌∙◌, subst, arith}
use Rattle.hs_core.specs.Types.{place, count}
use Rattle.kind_check.proofs.ScopeLemmas.{variable_in, variable_past, count-length, IfOk-then}
use Rattle.kind_check.specs.Scopes.{IsVariableForm}
use Rattle.type_terms.specs.Terms.{var}
use Rattle.kind_check.proofs.scope.variable.Goals as goal

pub returns-then-at-params : goal.returns-then-at-params
returns-then-at-params c =
    let l = count-length c.args.params.now in
    IfOk-then c.flex.result
    (λ t e. subst (IsVariableForm _ _ _ _) (sym (e ∙ ap (λ i. var (c.args.first + i)) c.position-at.ensures))
    (variable_in c.args.first (count c.args.params.now) (place c.args.params.now c.args.name.now)
    (subst (λ i. i < count c.args.params.now) c.position-at.ensures (omega (arith, l, c.if-at-params.true)))))
    c.flex.ensures

pub returns-else-at-params : goal.returns-else-at-params
returns-else-at-params c =
    let l = count-length c.args.params.now in
    IfOk-then c.rigid.result
    (λ t e. subst (IsVariableForm _ _ _ _) (sym e)
    (variable_past c.args.first (count c.args.params.now) (place c.args.params.now c.args.name.now)
    (subst (λ i. count c.args.params.now ≤ i) c.position-at.ensures (omega (arith, l, c.if-at-params.false)))))
    c.rigid.ensures
