use Rattle.std.proofs.Common.{rules, arith}
use Rattle.std.proofs.lemmas.Result.{err_from_is_err_and}
use Rattle.backpack_run.proofs.StageLemmas.{read_stopped, read_refused, read_told}
use Rattle.backpack_run.proofs.build.read_one.Goals as goal

pub returns-in_err-input-clause-tells : goal.returns-in_err-input-clause-tells
returns-in_err-input-clause-tells g c =
    let p = err_from_is_err_and c.from_residual.result c.from_residual.ensures.1 in
    rw (p.1, p.2) (read_stopped _ c.args.seen c.args.component.now c.in_err-input.field-0.0 c.in_err-input.ensures.tells)

pub returns-in_err-plain-clause-tells : goal.returns-in_err-plain-clause-tells
returns-in_err-plain-clause-tells g c =
    let r = c.from_residual-in_err-plain in
    let p = err_from_is_err_and r.result r.ensures.1 in
    rw (p.1, p.2) (read_refused _ c.args.seen c.args.component.now c.in_ok-input.input c.in_ok-input.ensures.tells
    c.in_err-plain.field-0.0 (search (rules, arith)))

pub returns-clause-tells : goal.returns-clause-tells
returns-clause-tells g c = read_told _ c.args.seen c.args.component.now c.in_ok-input.input c.in_ok-input.ensures.tells
    c.in_ok-plain.plain _ (search (rules, arith)) (search (rules, arith))
