use Rattle.std.proofs.Common.{◌<◌, ◌≤◌, length, refl, arith}
use Rattle.hole_unify.proofs.SearchingLemmas.{find-below, find-class, find-ends, find-step, find-end}
use Rattle.hole_unify.proofs.reach.search_cycle.Goals as goal

pub better_hole-requires-clause-class : goal.better_hole-requires-clause-class
better_hole-requires-clause-class c =
    let lt : c.loop-number.number < c.len-number-end.result = omega (arith, c.loop-number-test.true) in
    let len = c.len-number-end.ensures.len in
    let same = c.requires.length in
    find-class (λ v. v.items) c.as_slice.result.now c.in_ok-ends.ends.items c.args.edges.now c.args.classes.now
    c.loop-number.number c.as_slice.ensures.value c.in_ok-ends.ensures c.requires.classes
    (omega (arith, lt, len, same))

pub better_hole-requires-clause-below : goal.better_hole-requires-clause-below
better_hole-requires-clause-below c =
    find-below (λ v. v.items) c.as_slice.result.now c.in_ok-ends.ends.items
    (length c.args.classes.now) c.args.edges.now c.as_slice.ensures.value c.in_ok-ends.ensures
    (λ e a. (c.requires.ends e a).1)

pub loop-number-preserved : goal.loop-number-preserved
loop-number-preserved c =
    let ends = find-ends (λ v. v.items) c.as_slice.result.now c.in_ok-ends.ends.items
    (length c.args.classes.now) c.args.edges.now c.as_slice.ensures.value c.in_ok-ends.ensures in
    find-step c.args.edges.now c.args.table.now c.args.classes.now c.loop-number.number _ c.loop-number.best _
    c.in_ok-best.best _ c.requires.length c.node_at-node.ensures.ident
    refl (c.in_ok-best.ensures c.args.edges.now c.args.table.now ends) c.loop-number.invariant

pub returns : goal.returns
returns c =
    let le : c.len-number-end.result ≤ c.loop-number.number = omega (arith, c.loop-number-test.false) in
    let len = c.len-number-end.ensures.len in
    find-end c.args.edges.now c.args.table.now c.args.classes.now c.loop-number.number c.loop-number.best _
    c.requires.length (omega (arith, le, len)) c.loop-number.invariant
