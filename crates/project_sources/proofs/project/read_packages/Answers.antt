use Rattle.std.proofs.Common.{◌∙◌, rules, arith}
use Rattle.std.proofs.lemmas.Result.{err_from_is_err_and}
use Rattle.project_sources.proofs.ProjectLemmas.{packages_stopped, packages_more, packages_end, total_more}
use Rattle.project_sources.proofs.project.read_packages.Goals as goal

pub returns-in_err-found-clause-tells : goal.returns-in_err-found-clause-tells
returns-in_err-found-clause-tells g c =
    let p = err_from_is_err_and c.from_residual.result c.from_residual.ensures.1 in
    rw (p.1, p.2) (λ files told. packages_stopped files c.args.seen c.args.paths.now c.loop-path.all
    c.loop-path.path-index c.loop-path.read c.path-item.result (c.loop-path.invariant.0 files told)
    c.in_err-found.field-0.0 c.loop-path-test.true c.path-item.is c.loop-path.invariant.3
    (c.in_err-found.ensures.tells files (c.loop-path.invariant.1 ∙ told)))

pub returns-clause-tells : goal.returns-clause-tells
returns-clause-tells g c = λ files told. packages_end files c.args.seen c.args.paths.now c.loop-path.all
    c.loop-path.path-index (c.loop-path.invariant.0 files told) c.loop-path-test.false

pub loop-path-preserved : goal.loop-path-preserved
loop-path-preserved g c = (
  λ files told. packages_more files c.args.seen c.args.paths.now c.loop-path.all c.loop-path.path-index c.loop-path.read
      c.path-item.result (c.loop-path.invariant.0 files told) c.in_ok-found.found c.push.new.self c.loop-path-test.true
      c.path-item.is c.loop-path.invariant.3
      (c.in_ok-found.ensures.tells files (c.loop-path.invariant.1 ∙ told)) c.in_ok-push.ensures.ok,
  c.in_ok-found.ensures.kept ∙ c.loop-path.invariant.1,
  c.in_ok-found.ensures.counted ∙ c.loop-path.invariant.2,
  rw c.as_bytes.ensures (total_more c.args.seen c.loop-path.read c.loop-path.all c.push.new.self c.in_ok-found.found
      c.loop-path.invariant.3 c.in_ok-push.ensures.ok),
  search (rules, arith),
)
