use Rattle.std.proofs.Common.{rules, arith}
use Rattle.std.proofs.lemmas.Result.{err_from_is_err_and}
use Rattle.backpack_run.proofs.StageLemmas.{plan_stopped, plan_order_refused, plan_reach_refused, plan_told}
use Rattle.backpack_run.proofs.plan.planned.Goals as goal

pub returns-in_err-project-clause-tells : goal.returns-in_err-project-clause-tells
returns-in_err-project-clause-tells g c =
    let p = err_from_is_err_and c.from_residual.result c.from_residual.ensures.1 in
    rw (p.1, p.2) (plan_stopped _ c.args.target.now c.in_err-project.field-0.0 c.in_err-project.ensures.tells)

pub returns-in_err-order-clause-tells : goal.returns-in_err-order-clause-tells
returns-in_err-order-clause-tells g c =
    let r = c.from_residual-in_err-order in
    let p = err_from_is_err_and r.result r.ensures.1 in
    rw (p.1, p.2) (plan_order_refused _ c.args.target.now c.in_ok-project.project c.in_ok-project.ensures.tells
    c.in_err-order.field-0.0 (search (rules, arith)))

pub returns-in_err-components-clause-tells : goal.returns-in_err-components-clause-tells
returns-in_err-components-clause-tells g c =
    let r = c.from_residual-in_err-components in
    let p = err_from_is_err_and r.result r.ensures.1 in
    rw (p.1, p.2) (plan_reach_refused _ c.args.target.now c.in_ok-project.project c.in_ok-project.ensures.tells
    c.in_ok-order.order (search (rules, arith)) c.in_err-components.field-0.0 (search (rules, arith)))

pub returns-clause-tells : goal.returns-clause-tells
returns-clause-tells g c = plan_told _ c.args.target.now c.in_ok-project.project c.in_ok-project.ensures.tells
    c.in_ok-order.order (search (rules, arith)) c.in_ok-components.components _ (search (rules, arith))
    (search (rules, arith))
