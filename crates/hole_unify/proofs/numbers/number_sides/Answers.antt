use Rattle.hole_unify.proofs.ListingLemmas.{numbered-sides}
use Rattle.hole_unify.proofs.numbers.number_sides.Goals as goal

pub returns : goal.returns
returns c =
    numbered-sides c.args.table.now c.number.new.self c.number-2.new.self c.args.equation.now _
    c.in_ok-one.ensures.number c.in_ok-one.ensures.grows c.in_ok-one.ensures.parts
    c.in_ok-other.ensures.number c.in_ok-other.ensures.grows c.in_ok-other.ensures.parts c.in_ok-other.ensures.table
