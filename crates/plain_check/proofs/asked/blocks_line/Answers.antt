use Rattle.plain_check.proofs.AskedLemmas.{asking_next}
use Rattle.plain_check.proofs.asked.blocks_line.Goals as goal

pub loop-rest-preserved-in_ok-found : goal.loop-rest-preserved-in_ok-found
loop-rest-preserved-in_ok-found c =
    asking_next c.args.component.now c.args.owner.now c.loop-rest.rest.now c.line-item.result c.deeper_len.result
    c.loop-rest.least c.in_ok-found.found c.sooner-least.result _ c.in-len1-up.len_at_least c.line-item.is
    c.if-line-eq0.true c.deeper_len.ensures.value c.in_ok-found.ensures c.sooner-least.ensures c.loop-rest.invariant
