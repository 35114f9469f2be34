use Rattle.std.proofs.lemmas.Result.{err_from_is_err_and}
use Rattle.backpack_run.proofs.LoopLemmas.{name_refused, name_more, names_end}
use Rattle.backpack_run.proofs.plan.reached.Goals as goal

pub returns-in_err-component : goal.returns-in_err-component
returns-in_err-component c =
    let p = err_from_is_err_and c.from_residual.result c.from_residual.ensures.1 in
    rw (p.1, p.2) (name_refused c.args.project.now c.args.order.now c.loop-name.all c.loop-name.name-index
    c.loop-name.invariant c.name-item.result c.in_err-component.field-0.0 c.loop-name-test.true c.name-item.is
    c.in_err-component.ensures)

pub returns : goal.returns
returns c = names_end c.args.project.now c.args.order.now c.loop-name.all c.loop-name.name-index c.loop-name.invariant
    c.loop-name-test.false

pub loop-name-preserved : goal.loop-name-preserved
loop-name-preserved c = name_more c.args.project.now c.args.order.now c.loop-name.all c.loop-name.name-index
    c.loop-name.invariant c.name-item.result c.in_ok-component.component c.push.new.self c.loop-name-test.true
    c.name-item.is c.in_ok-component.ensures c.in_ok-push.ensures.ok
