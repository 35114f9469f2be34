use Rattle.std.proofs.Common.{rules, arith, sym, ◌∙◌}
use Rattle.project_sources.proofs.SourceLemmas.{first_here, first_later}
use Rattle.project_sources.proofs.sources.first_there.Goals as goal

pub returns-in-Some-clause-told : goal.returns-in-Some-clause-told
returns-in-Some-clause-told g c = λ files told.
    first_here files c.args.paths.now c.loop-path.path-index c.path-item.result c.loop-path-test.true c.path-item.is
    (c.loop-path.invariant.0 files told) c.in-Some.bytes _
    (sym c.in-Some.is ∙ c.in_ok-found.ensures.told files (c.loop-path.invariant.1 ∙ told)) (search (rules, arith))

pub loop-path-preserved : goal.loop-path-preserved
loop-path-preserved g c = (
  λ files told. first_later files c.args.paths.now c.loop-path.path-index c.path-item.result c.loop-path-test.true
      c.path-item.is (c.loop-path.invariant.0 files told)
      (sym c.in_default.is ∙ c.in_ok-found.ensures.told files (c.loop-path.invariant.1 ∙ told)),
  c.in_ok-found.ensures.kept ∙ c.loop-path.invariant.1,
  c.in_ok-found.ensures.counted ∙ c.loop-path.invariant.2,
)
