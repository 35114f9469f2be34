use Rattle.std.proofs.Common.{sym}
use Rattle.bp_base.proofs.TextLemmas.{same_texts, other_texts}
use Rattle.infer_expressions.proofs.NewestLemmas.{newest_at, unbound_next}
use Rattle.infer_expressions.proofs.scope.find_local.Goals as goal

pub returns-then-eq-clause-some : goal.returns-then-eq-clause-some
returns-then-eq-clause-some c = newest_at c.args.env.now c.args.name.now c.loop-binder.binder-index c.binder-item.result
    c.loop-binder-test.true c.binder-item.is
    (same_texts c.binder-item.result.name c.args.name.now (sym c.if-eq.ensures)) c.loop-binder.invariant

pub loop-binder-preserved : goal.loop-binder-preserved
loop-binder-preserved c = unbound_next c.args.env.now c.args.name.now c.loop-binder.binder-index c.binder-item.result
    c.loop-binder-test.true c.binder-item.is
    (other_texts c.binder-item.result.name c.args.name.now (sym c.if-eq.ensures))
    c.loop-binder.invariant
