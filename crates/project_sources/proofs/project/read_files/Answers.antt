use Rattle.std.proofs.Common.{rules, arith}
use Rattle.std.proofs.lemmas.Result.{err_from_is_err_and}
use Rattle.project_sources.proofs.WholeLemmas.{project_stopped, packages_refused, apart_refused, project_told}
use Rattle.project_sources.proofs.project.read_files.Goals as goal

pub returns-in_err-named-clause-tells : goal.returns-in_err-named-clause-tells
returns-in_err-named-clause-tells g c =
    let p = err_from_is_err_and c.from_residual.result c.from_residual.ensures.1 in
    rw (p.1, p.2) (project_stopped _ c.in_err-named.field-0.0 c.in_err-named.ensures.tells)

pub returns-in_err-packages-clause-tells : goal.returns-in_err-packages-clause-tells
returns-in_err-packages-clause-tells g c =
    let r = c.from_residual-in_err-packages in
    let p = err_from_is_err_and r.result r.ensures.1 in
    rw (p.1, p.2) (packages_refused _ _ c.in_ok-named.ensures.kept c.in_ok-named.named c.in_ok-named.ensures.tells
    c.in_err-packages.field-0.0 (search (rules, arith)))

pub returns-clause-tells : goal.returns-clause-tells
returns-clause-tells g c = project_told _ _ c.in_ok-named.ensures.kept c.in_ok-named.named c.in_ok-named.ensures.tells
    c.in_ok-packages.packages c.in_ok-components.components tt _ (search (rules, arith)) (search (rules, arith))
    (search (rules, arith)) (search (rules, arith))

pub returns-in_err-told_apart-clause-tells : goal.returns-in_err-told_apart-clause-tells
returns-in_err-told_apart-clause-tells g c =
    let r = c.from_residual-in_err-told_apart in
    let p = err_from_is_err_and r.result r.ensures.1 in
    rw (p.1, p.2) (apart_refused _ _ c.in_ok-named.ensures.kept c.in_ok-named.named c.in_ok-named.ensures.tells
    c.in_ok-packages.packages c.in_ok-components.components c.in_err-told_apart.field-0.0 (search (rules, arith))
    (search (rules, arith)) (search (rules, arith)))
