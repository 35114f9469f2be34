use Rattle.std.proofs.Common.{rules, arith, length}
use Rattle.std.proofs.lemmas.Result.{err_from_is_err_and}
use Rattle.bp_checks.proofs.StepLemmas.{paid}
use Rattle.backpack_run.proofs.StageLemmas.{check_stopped, check_refused, check_told}
use Rattle.backpack_run.proofs.CountLemmas.{counted_one}
use Rattle.backpack_run.proofs.AnswerLemmas.{undone, paid_nothing}
use Rattle.backpack_run.proofs.build.checked_one.Goals as goal

pub returns-in_err-built-clause-tells : goal.returns-in_err-built-clause-tells
returns-in_err-built-clause-tells g c =
    let p = err_from_is_err_and c.from_residual.result c.from_residual.ensures.1 in
    rw (p.1, p.2) (check_stopped _ c.args.seen c.args.component.now c.in_err-built.field-0.0
    c.in_err-built.ensures.tells)

pub returns-in_err-built-clause-steps : goal.returns-in_err-built-clause-steps
returns-in_err-built-clause-steps g c =
    let p = err_from_is_err_and c.from_residual.result c.from_residual.ensures.1 in
    paid_nothing _ _ _ _ (undone _ _ p.1)

pub returns-in_err-check_module-clause-tells : goal.returns-in_err-check_module-clause-tells
returns-in_err-check_module-clause-tells g c =
    let r = c.from_residual-in_err-check_module in
    let p = err_from_is_err_and r.result r.ensures.1 in
    rw (p.1, p.2) (check_refused _ c.args.seen c.args.component.now c.in_ok-built.built c.in_ok-built.ensures.tells
    c.in_err-check_module.field-0.0 (search (rules, arith)))

pub returns-in_err-check_module-clause-steps : goal.returns-in_err-check_module-clause-steps
returns-in_err-check_module-clause-steps g c =
    let p = err_from_is_err_and c.from_residual-in_err-check_module.result c.from_residual-in_err-check_module.ensures.1 in
    let e = c.in_err-check_module.ensures in
    paid _ _ (length c.in_ok-built.built.plain.bindings) _ _ ⊥ _
    (λ files n told k. counted_one files c.args.seen c.args.component.now c.in_ok-built.built n
    (c.in_ok-built.ensures.tells files told) k)
    (record { later = e.later; most = e.most; all = λ d. absurd d }) (λ d. undone _ _ p.1 d)

pub returns-clause-tells : goal.returns-clause-tells
returns-clause-tells g c = check_told _ c.args.seen c.args.component.now c.in_ok-built.built c.in_ok-built.ensures.tells
    tt (search (rules, arith))

pub returns-clause-steps : goal.returns-clause-steps
returns-clause-steps g c =
    let e = c.in_ok-check_module.ensures in
    paid _ _ (length c.in_ok-built.built.plain.bindings) _ _ (Unit {0}) _
    (λ files n told k. counted_one files c.args.seen c.args.component.now c.in_ok-built.built n
    (c.in_ok-built.ensures.tells files told) k)
    (record { later = e.later; most = e.most; all = λ d. e.all }) (λ d. tt)
