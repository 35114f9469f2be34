use Rattle.std.proofs.Common.{rules, arith}
use Rattle.std.proofs.lemmas.Result.{err_from_is_err_and}
use Rattle.project_sources.proofs.WholeLemmas.{named_stopped, named_refused, named_told}
use Rattle.project_sources.proofs.project.named_files.Goals as goal

pub returns-in_err-content-clause-tells : goal.returns-in_err-content-clause-tells
returns-in_err-content-clause-tells g c =
    let r = c.from_residual-in_err-content in
    let p = err_from_is_err_and r.result r.ensures.1 in
    rw (p.1, p.2) (named_stopped _ c.in_ok-path.path c.in_ok-path.ensures c.in_err-content.field-0.0
    c.in_err-content.ensures.tells)

pub returns-in_err-paths-clause-tells : goal.returns-in_err-paths-clause-tells
returns-in_err-paths-clause-tells g c =
    let r = c.from_residual-in_err-paths in
    let p = err_from_is_err_and r.result r.ensures.1 in
    rw (p.1, p.2) (named_refused _ c.in_ok-path.path c.in_ok-path.ensures c.in_ok-content.content
    c.in_err-paths.field-0.0 c.in_ok-content.ensures.tells (search (rules, arith)))

pub returns-clause-tells : goal.returns-clause-tells
returns-clause-tells g c = named_told _ c.in_ok-path.path c.in_ok-path.ensures c.in_ok-content.content
    c.in_ok-paths.paths _ c.in_ok-content.ensures.tells (search (rules, arith)) (search (rules, arith))
