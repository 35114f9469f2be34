use Rattle.std.proofs.Common.{◌≡◌, length, arith}
use Rattle.kind_check.proofs.StackLemmas.{all_read, top_kind, no_top}
use Rattle.kind_check.proofs.answer.kind_of_term.Goals as goal

pub returns-in-Some : goal.returns-in-Some
returns-in-Some c =
    let e : c.loop-index.index ≡ length c.nodes-nodes.result.now =
    omega (arith, c.loop-index-test.false, c.loop-index.auto.index-end) in
    top_kind c.loop-index.kinds _ c.in-Some.kind _ c.in-Some.ensures
    (all_read c.loop-index.kinds c.loop-index.index c.nodes-nodes.result.now c.args.term.now e c.loop-index.invariant
    c.nodes-nodes.ensures)

pub returns : goal.returns
returns c =
    let e : c.loop-index.index ≡ length c.nodes-nodes.result.now =
    omega (arith, c.loop-index-test.false, c.loop-index.auto.index-end) in
    no_top c.loop-index.kinds _ c.in-None.ensures.0
    (all_read c.loop-index.kinds c.loop-index.index c.nodes-nodes.result.now c.args.term.now e c.loop-index.invariant
    c.nodes-nodes.ensures)
