use Rattle.std.proofs.Common.{◌≡◌, arith}
use Rattle.hole_unify.proofs.ListingLemmas.{listing-step, all-listed, listed-terms}
use Rattle.hole_unify.proofs.numbers.list_pairs.Goals as goal

pub loop-place-preserved : goal.loop-place-preserved
loop-place-preserved c =
    listing-step c.args.equations.now c.loop-place.place c.index-equations-place.result c.loop-place.table
    c.number_sides.new.table c.loop-place.pairs.items c.push.new.self.items c.in_ok-number_sides.field-0
    (omega (arith, c.loop-place-test.true)) c.loop-place.invariant.1 c.index-equations-place.is c.loop-place.invariant.0
    c.in_ok-number_sides.ensures c.in_ok-push.ensures.items

pub returns-clause-terms : goal.returns-clause-terms
returns-clause-terms c =
    let none : c.loop-place.place ≡ 0 = omega (arith, c.loop-place-test.false) in
    listed-terms c.args.equations.now c.loop-place.table c.loop-place.pairs.items
    (all-listed c.args.equations.now c.loop-place.place c.loop-place.table c.loop-place.pairs.items none
    c.loop-place.invariant.0)
