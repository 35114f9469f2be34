use Rattle.std.proofs.Common.{rules, arith, refl, ◌∙◌}
use Rattle.std.proofs.lemmas.Result.{err_from_is_err_and}
use Rattle.bp_checks.proofs.StepLemmas.{spend_more, spend_stopped, spend_quit, spend_end}
use Rattle.backpack_run.specs.Counts.{CountsOne}
use Rattle.backpack_run.proofs.LoopLemmas.{component_stopped, component_more, components_end, built_total_more}
use Rattle.backpack_run.proofs.AnswerLemmas.{undone, paid_later}
use Rattle.backpack_run.proofs.build.all_checked.Goals as goal

pub returns-in_err-built-clause-tells : goal.returns-in_err-built-clause-tells
returns-in_err-built-clause-tells g c =
    let p = err_from_is_err_and c.from_residual.result c.from_residual.ensures.1 in
    rw (p.1, p.2) (λ files told. component_stopped files c.args.seen c.args.components.now c.loop-component.all
    c.loop-component.component-index (c.loop-component.invariant.0 files told) c.loop-component.read
    c.component-item.result c.in_err-built.field-0.0 c.loop-component-test.true c.component-item.is
    c.loop-component.invariant.3 (c.in_err-built.ensures.tells files (c.loop-component.invariant.1 ∙ told)))

pub returns-clause-tells : goal.returns-clause-tells
returns-clause-tells g c = λ files told. components_end files c.args.seen c.args.components.now c.loop-component.all
    c.loop-component.component-index (c.loop-component.invariant.0 files told) c.loop-component-test.false

pub returns-in_err-built-clause-steps : goal.returns-in_err-built-clause-steps
returns-in_err-built-clause-steps g c =
    let p = err_from_is_err_and c.from_residual.result c.from_residual.ensures.1 in
    spend_stopped _ CountsOne c.args.components.now c.loop-component.component-index c.component-item.result _ _ _ _ _
    c.loop-component.invariant.5 c.loop-component-test.true c.component-item.is
    (paid_later _ _ _ _ _ _ c.loop-component.invariant.1 c.in_err-built.ensures.steps) (undone _ _ p.1)

pub returns-in_err-push-clause-steps : goal.returns-in_err-push-clause-steps
returns-in_err-push-clause-steps g c =
    let p = err_from_is_err_and c.from_residual-in_err-push.result c.from_residual-in_err-push.ensures.1 in
    spend_quit _ CountsOne c.args.components.now _ _ _ _ (
    spend_more _ CountsOne c.args.components.now c.loop-component.component-index c.component-item.result _ _ _ _
    c.loop-component.invariant.5 c.loop-component-test.true c.component-item.is
    (paid_later _ _ _ _ _ _ c.loop-component.invariant.1 c.in_ok-built.ensures.steps) refl) (undone _ _ p.1)

pub returns-clause-steps : goal.returns-clause-steps
returns-clause-steps g c = spend_end _ CountsOne c.args.components.now c.loop-component.component-index _ _ _
    c.loop-component.invariant.5 c.loop-component-test.false

pub loop-component-preserved : goal.loop-component-preserved
loop-component-preserved g c = (
  λ files told. component_more files c.args.seen c.args.components.now c.loop-component.all
      c.loop-component.component-index (c.loop-component.invariant.0 files told) c.loop-component.read
      c.component-item.result c.in_ok-built.built c.push.new.self c.loop-component-test.true c.component-item.is
      c.loop-component.invariant.3 (c.in_ok-built.ensures.tells files (c.loop-component.invariant.1 ∙ told))
      c.in_ok-push.ensures.ok,
  c.in_ok-built.ensures.kept ∙ c.loop-component.invariant.1,
  c.in_ok-built.ensures.counted ∙ c.loop-component.invariant.2,
  built_total_more c.args.seen c.loop-component.read c.loop-component.all c.push.new.self c.in_ok-built.built
      c.loop-component.invariant.3 c.in_ok-push.ensures.ok,
  search (rules, arith),
  spend_more _ CountsOne c.args.components.now c.loop-component.component-index c.component-item.result _ _ _ _
      c.loop-component.invariant.5 c.loop-component-test.true c.component-item.is
      (paid_later _ _ _ _ _ _ c.loop-component.invariant.1 c.in_ok-built.ensures.steps) refl,
)
