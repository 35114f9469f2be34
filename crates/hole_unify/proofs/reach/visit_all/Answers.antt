use Rattle.std.proofs.Common.{◌<◌, length, slice_index_or, arith}
use Rattle.hole_unify.proofs.TableLemmas.{Among-get_or}
use Rattle.hole_unify.proofs.reach.visit_all.Goals as goal

pub visit-requires-clause-below : goal.visit-requires-clause-below
visit-requires-clause-below c =
    let lt : c.loop-end.end-index < length c.args.ends.now = omega (arith, c.loop-end-test.true) in
    let h = c.requires.below (slice_index_or c.args.ends.now c.loop-end.end-index 0)
    (Among-get_or c.args.ends.now c.loop-end.end-index 0 lt) in
    let same = c.loop-end.invariant.2 in
    omega (arith, h, same)
