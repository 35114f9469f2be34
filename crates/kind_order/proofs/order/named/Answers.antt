use Rattle.std.proofs.Common.{refl, ap, Some}
use Rattle.hs_core.specs.Types.{kind_term}
use Rattle.kind_order.proofs.OrderLemmas.{named-next}
use Rattle.kind_order.proofs.order.named.Goals as goal

pub loop-index-preserved : goal.loop-index-preserved
loop-index-preserved c =
    named-next c.args.decls.now c.args.kinds.now c.loop-index.index c.loop-index.names c.push.new.self _ _
    c.index-decls-index.result c.index-kinds-index.result c.index-kinds-index.result c.requires c.loop-index-test.true
    c.loop-index.invariant c.in_ok-push.ensures.ok refl c.index-kinds-index.is c.in_ok-copied.ensures
    (ap (λ k. Some (kind_term k)) c.in_ok-copied-2.ensures)
