use Rattle.std.proofs.Common.{length, arith}
use Rattle.hole_unify.proofs.RankLemmas.{edge-ends, fall-more}
use Rattle.hole_unify.proofs.reach.do_ranks_fall.Goals as goal

pub offset_bounds-ranks-edge : goal.offset_bounds-ranks-edge
offset_bounds-ranks-edge c =
    let below = edge-ends c.args.edges.now (length c.args.ranks.now) c.loop-edge.edge-index
    (record { from = 0; to = 0 }) c.requires (omega (arith, c.loop-edge-test.true)) in
    omega (arith, below.1)

pub bounds-ranks-edge : goal.bounds-ranks-edge
bounds-ranks-edge c =
    let below = edge-ends c.args.edges.now (length c.args.ranks.now) c.loop-edge.edge-index
    (record { from = 0; to = 0 }) c.requires (omega (arith, c.loop-edge-test.true)) in
    below.1

pub offset_bounds-ranks-edge-in-loop-edge : goal.offset_bounds-ranks-edge-in-loop-edge
offset_bounds-ranks-edge-in-loop-edge c =
    let below = edge-ends c.args.edges.now (length c.args.ranks.now) c.loop-edge.edge-index
    (record { from = 0; to = 0 }) c.requires (omega (arith, c.loop-edge-test.true)) in
    omega (arith, below.0)

pub bounds-ranks-edge-in-loop-edge : goal.bounds-ranks-edge-in-loop-edge
bounds-ranks-edge-in-loop-edge c =
    let below = edge-ends c.args.edges.now (length c.args.ranks.now) c.loop-edge.edge-index
    (record { from = 0; to = 0 }) c.requires (omega (arith, c.loop-edge-test.true)) in
    below.0

pub loop-edge-preserved : goal.loop-edge-preserved
loop-edge-preserved c =
    fall-more c.args.ranks.now c.args.edges.now c.loop-edge.edge-index (record { from = 0; to = 0 })
    (omega (arith, c.loop-edge-test.true)) (omega (arith, c.if-ranks-edge.false)) c.loop-edge.invariant
