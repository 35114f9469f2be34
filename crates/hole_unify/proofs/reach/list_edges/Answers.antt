use Rattle.std.proofs.Common.{◌<◌, ◌≤◌, length, arith}
use Rattle.hole_unify.proofs.EdgeLemmas.{edges-step, edges-end, node-below}
use Rattle.hole_unify.proofs.reach.list_edges.Goals as goal

pub add_edges_of_node-requires : goal.add_edges_of_node-requires
add_edges_of_node-requires c =
    let lt : c.loop-number.number < c.len-number-end.result = omega (arith, c.loop-number-test.true) in
    let len = c.len-number-end.ensures.len in
    node-below c.node_at.result.now c.loop-number.number (length c.args.classes.now) (let same = c.requires in
    omega (arith, lt, len, same)) c.node_at.ensures.below

pub loop-number-preserved : goal.loop-number-preserved
loop-number-preserved c =
    let lt : c.loop-number.number < c.len-number-end.result = omega (arith, c.loop-number-test.true) in
    let len = c.len-number-end.ensures.len in
    edges-step c.args.table.now c.args.classes.now c.len-number-end.ensures.table c.requires c.loop-number.number
    c.node_at.result.now c.loop-number.edges.items c.add_edges_of_node.new.edges.items _
    (node-below c.node_at.result.now c.loop-number.number (length c.args.table.now)
    (omega (arith, lt, len)) c.node_at.ensures.below) c.node_at.ensures.ident c.in_ok-add_edges_of_node.ensures
    c.loop-number.invariant

pub returns : goal.returns
returns c =
    let le : c.len-number-end.result ≤ c.loop-number.number = omega (arith, c.loop-number-test.false) in
    let len = c.len-number-end.ensures.len in
    edges-end c.args.table.now c.args.classes.now c.len-number-end.ensures.table c.requires c.loop-number.number
    c.loop-number.edges.items _ (omega (arith, le, len)) c.loop-number.invariant
