use Rattle.std.proofs.Common.{rules, arith}
use Rattle.std.proofs.lemmas.Result.{err_from_is_err_and}
use Rattle.project_sources.proofs.SourceLemmas.{modules_refused, gathered_stopped, gathered_told}
use Rattle.project_sources.proofs.sources.gathered.Goals as goal

pub returns-in_err-few_modules-clause-tells : goal.returns-in_err-few_modules-clause-tells
returns-in_err-few_modules-clause-tells g c =
    let r = c.from_residual-in_err-few_modules in
    let p = err_from_is_err_and r.result r.ensures.1 in
    rw (p.1, p.2) (modules_refused _ c.args.seen c.args.component.now c.in_ok-wanted.wanted c.in_ok-wanted.ensures
    c.in_err-few_modules.field-0.0 (search (rules, arith)))

pub returns-in_err-sources-clause-tells : goal.returns-in_err-sources-clause-tells
returns-in_err-sources-clause-tells g c =
    let r = c.from_residual-in_err-sources in
    let p = err_from_is_err_and r.result r.ensures.1 in
    rw (p.1, p.2) (gathered_stopped _ c.args.seen c.args.component.now c.in_ok-wanted.wanted c.in_ok-wanted.ensures
    (search (rules, arith)) c.in_err-sources.field-0.0 (search (rules, arith)))

pub returns-clause-tells : goal.returns-clause-tells
returns-clause-tells g c =
    gathered_told _ c.args.seen c.args.component.now c.in_ok-wanted.wanted c.in_ok-wanted.ensures
    (search (rules, arith)) c.in_ok-sources.sources _ (search (rules, arith)) (search (rules, arith))
