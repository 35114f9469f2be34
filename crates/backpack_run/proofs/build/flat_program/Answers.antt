use Rattle.std.proofs.Common.{rules, arith, refl}
use Rattle.std.proofs.lemmas.Result.{err_from_is_err_and}
use Rattle.backpack_run.proofs.StageLemmas.{built_stopped, built_check_stopped, built_refused, built_told}
use Rattle.backpack_run.proofs.CountLemmas.{counted}
use Rattle.backpack_run.proofs.AnswerLemmas.{undone, paid_nothing, paid_later, paid_through}
use Rattle.backpack_run.proofs.build.flat_program.Goals as goal

pub returns-in_err-plan-clause-tells : goal.returns-in_err-plan-clause-tells
returns-in_err-plan-clause-tells g c =
    let p = err_from_is_err_and c.from_residual.result c.from_residual.ensures.1 in
    rw (p.1, p.2) (built_stopped _ _ refl c.args.target.now c.in_err-plan.field-0.0 c.in_err-plan.ensures.tells)

pub returns-in_err-plan-clause-steps : goal.returns-in_err-plan-clause-steps
returns-in_err-plan-clause-steps g c =
    let p = err_from_is_err_and c.from_residual.result c.from_residual.ensures.1 in
    paid_nothing _ _ _ _ (undone _ _ p.1)

pub returns-in_err-all-clause-tells : goal.returns-in_err-all-clause-tells
returns-in_err-all-clause-tells g c =
    let r = c.from_residual-in_err-all in
    let p = err_from_is_err_and r.result r.ensures.1 in
    rw (p.1, p.2) (built_check_stopped _ _ c.in_ok-plan.ensures.kept c.args.target.now c.in_ok-plan.plan
    c.in_ok-plan.ensures.tells c.in_err-all.field-0.0 (search (rules, arith)))

pub returns-in_err-all-clause-steps : goal.returns-in_err-all-clause-steps
returns-in_err-all-clause-steps g c =
    let p = err_from_is_err_and c.from_residual-in_err-all.result c.from_residual-in_err-all.ensures.1 in
    paid_through _ _ _ _ _ _ _ (λ files n told k. counted files c.args.target.now c.in_ok-plan.plan n
    (c.in_ok-plan.ensures.tells files told) k)
    (paid_later _ _ _ _ _ _ c.in_ok-plan.ensures.kept
    (rw c.as_slice.ensures at c.in_err-all.ensures.steps)) (λ d. absurd (undone _ _ p.1 d))

pub returns-in_err-text-clause-tells : goal.returns-in_err-text-clause-tells
returns-in_err-text-clause-tells g c =
    let r = c.from_residual-in_err-text in
    let p = err_from_is_err_and r.result r.ensures.1 in
    rw (p.1, p.2) (built_refused _ _ c.in_ok-plan.ensures.kept c.args.target.now c.in_ok-plan.plan
    c.in_ok-plan.ensures.tells c.in_ok-all.all (search (rules, arith)) c.in_err-text.field-0.0 (search (rules, arith)))

pub returns-in_err-text-clause-steps : goal.returns-in_err-text-clause-steps
returns-in_err-text-clause-steps g c =
    let p = err_from_is_err_and c.from_residual-in_err-text.result c.from_residual-in_err-text.ensures.1 in
    paid_through _ _ _ _ _ _ _ (λ files n told k. counted files c.args.target.now c.in_ok-plan.plan n
    (c.in_ok-plan.ensures.tells files told) k)
    (paid_later _ _ _ _ _ _ c.in_ok-plan.ensures.kept
    (rw c.as_slice.ensures at c.in_ok-all.ensures.steps)) (λ d. absurd (undone _ _ p.1 d))

pub returns-clause-tells : goal.returns-clause-tells
returns-clause-tells g c = built_told _ _ c.in_ok-plan.ensures.kept c.args.target.now c.in_ok-plan.plan
    c.in_ok-plan.ensures.tells c.in_ok-all.all (search (rules, arith)) c.in_ok-text.text (search (rules, arith))

pub returns-clause-steps : goal.returns-clause-steps
returns-clause-steps g c =
    paid_through _ _ _ _ _ _ _ (λ files n told k. counted files c.args.target.now c.in_ok-plan.plan n
    (c.in_ok-plan.ensures.tells files told) k)
    (paid_later _ _ _ _ _ _ c.in_ok-plan.ensures.kept
    (rw c.as_slice.ensures at c.in_ok-all.ensures.steps)) (λ d. refl)
