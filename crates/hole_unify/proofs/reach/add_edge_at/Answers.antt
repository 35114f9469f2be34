use Rattle.std.proofs.Common.{◌<◌, length, sym, ◌∙◌, arith}
use Rattle.hole_unify.proofs.FillerLemmas.{number-below}
use Rattle.hole_unify.proofs.reach.add_edge_at.Goals as goal

pub offset_bounds-classes-number : goal.offset_bounds-classes-number
offset_bounds-classes-number c =
    let lt : c.in-Some.number < length c.args.classes.now =
    number-below _ c.args.hole.now c.args.fills.now c.in-Some.number c.requires (sym c.filler.ensures
    ∙ c.in-Some.is) in
    omega (arith, lt)

pub bounds-classes-number : goal.bounds-classes-number
bounds-classes-number c = number-below _ c.args.hole.now c.args.fills.now c.in-Some.number c.requires
    (sym c.filler.ensures ∙ c.in-Some.is)
