use Rattle.std.proofs.Common.{◌<◌, length, ◌∙◌, arith}
use Rattle.hole_unify.proofs.SearchingLemmas.{lists-length}
use Rattle.hole_unify.proofs.ClosesToLemmas.{upto-none, edge-at, ends-pushed}
use Rattle.hole_unify.proofs.reach.list_ends.Goals as goal

pub loop-edge-init : goal.loop-edge-init
loop-edge-init c = c.in_ok-ends.ensures ∙ upto-none c.args.count

pub index_mut-requires : goal.index_mut-requires
index_mut-requires c =
    let lt : c.loop-edge.edge-index < length c.args.edges.now = omega (arith, c.loop-edge-test.true) in
    let below = edge-at c.args.edges.now c.args.count c.loop-edge.edge-index
    (record { from = 0; to = 0 }) c.requires lt in
    let len = lists-length (λ v. v.items) c.loop-edge.ends.items c.args.count _ c.loop-edge.invariant in
    let same = c.loop-edge.ends.ok.0 in
    omega (arith, below, len, same)

pub loop-edge-preserved : goal.loop-edge-preserved
loop-edge-preserved c =
    let lt : c.loop-edge.edge-index < length c.args.edges.now = omega (arith, c.loop-edge-test.true) in
    let below = edge-at c.args.edges.now c.args.count c.loop-edge.edge-index
    (record { from = 0; to = 0 }) c.requires lt in
    ends-pushed (λ v. v.items) c.loop-edge.ends.items c.index_mut.result.now c.push.new.self c.args.count
    c.args.edges.now c.loop-edge.edge-index (record {
      from = 0;
      to = 0;
    }) lt below c.loop-edge.invariant c.index_mut.ensures.value c.in_ok-push.ensures.items
