use Rattle.std.proofs.Common.{◌∙◌, rules, arith}
use Rattle.std.proofs.lemmas.Result.{err_from_is_err_and}
use Rattle.project_sources.proofs.SourceLemmas.{sources_stopped, sources_more, sources_end, source_total_more}
use Rattle.project_sources.proofs.sources.read_sources.Goals as goal

pub returns-in_err-found-clause-tells : goal.returns-in_err-found-clause-tells
returns-in_err-found-clause-tells g c =
    let p = err_from_is_err_and c.from_residual.result c.from_residual.ensures.1 in
    rw (p.1, p.2) (λ files told. sources_stopped files c.args.seen c.args.component.now c.args.wanted.now c.loop-each.all
    c.loop-each.each-index c.loop-each.read c.each-item.result (c.loop-each.invariant.0 files told)
    c.in_err-found.field-0.0 c.loop-each-test.true c.each-item.is c.loop-each.invariant.3
    (c.in_err-found.ensures.tells files (c.loop-each.invariant.1 ∙ told)))

pub returns-clause-tells : goal.returns-clause-tells
returns-clause-tells g c = λ files told. sources_end files c.args.seen c.args.component.now c.args.wanted.now
    c.loop-each.all c.loop-each.each-index (c.loop-each.invariant.0 files told) c.loop-each-test.false

pub loop-each-preserved : goal.loop-each-preserved
loop-each-preserved g c = (
  λ files told. sources_more files c.args.seen c.args.component.now c.args.wanted.now c.loop-each.all
      c.loop-each.each-index c.loop-each.read c.each-item.result (c.loop-each.invariant.0 files told) c.in_ok-found.found
      c.push.new.self c.loop-each-test.true c.each-item.is c.loop-each.invariant.3
      (c.in_ok-found.ensures.tells files (c.loop-each.invariant.1 ∙ told)) c.in_ok-push.ensures.ok,
  c.in_ok-found.ensures.kept ∙ c.loop-each.invariant.1,
  c.in_ok-found.ensures.counted ∙ c.loop-each.invariant.2,
  rw c.as_bytes.ensures (source_total_more c.args.seen c.loop-each.read c.loop-each.all c.push.new.self
      c.in_ok-found.found c.loop-each.invariant.3 c.in_ok-push.ensures.ok),
  search (rules, arith),
)
