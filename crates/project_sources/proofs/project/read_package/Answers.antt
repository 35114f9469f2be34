use Rattle.std.proofs.Common.{rules, arith}
use Rattle.std.proofs.lemmas.Result.{err_from_is_err_and}
use Rattle.project_sources.proofs.ProjectLemmas.{package_stopped, package_refused, package_told}
use Rattle.project_sources.proofs.project.read_package.Goals as goal

pub returns-in_err-content-clause-tells : goal.returns-in_err-content-clause-tells
returns-in_err-content-clause-tells g c =
    let p = err_from_is_err_and c.from_residual.result c.from_residual.ensures.1 in
    rw (p.1, p.2) (package_stopped _ c.args.seen c.args.path.now c.in_err-content.field-0.0
    c.in_err-content.ensures.tells)

pub returns-in_err-components-clause-tells : goal.returns-in_err-components-clause-tells
returns-in_err-components-clause-tells g c =
    let r = c.from_residual-in_err-components in
    let p = err_from_is_err_and r.result r.ensures.1 in
    rw (p.1, p.2) (package_refused _ c.args.seen c.args.path.now c.in_ok-content.content
    c.in_err-components.field-0.0 c.in_ok-content.ensures.tells (search (rules, arith)))

pub returns-clause-tells : goal.returns-clause-tells
returns-clause-tells g c = package_told _ c.args.seen c.args.path.now c.in_ok-content.content
    c.in_ok-components.components _ c.in_ok-content.ensures.tells (search (rules, arith)) (search (rules, arith))
