use Rattle.std.proofs.Common.{◌+◌, ◌-◌, ◌/◌, take, subst}
use Rattle.hole_unify.specs.Solve.{IsSettlement}
use Rattle.hole_unify.proofs.SolvingLemmas.{half-low, lawful-take}
use Rattle.hole_unify.proofs.solve.halve.Goals as goal

pub returns-in-Free-clause-bounds : goal.returns-in-Free-clause-bounds
returns-in-Free-clause-bounds c =
    let p = subst (IsSettlement (take (c.args.range.low + (c.args.range.high - c.args.range.low) / 2)
    c.args.equations.now)) c.in-Free.is c.in_ok-settle.ensures in
    half-low c.args.equations.now c.args.range c.in-Free.table c.in-Free.classes.items c.requires.lawful
    c.requires.bounds c.requires.wide p

pub settle-requires : goal.settle-requires
settle-requires c = lawful-take c.args.equations.now
    (c.args.range.low + (c.args.range.high - c.args.range.low) / 2) c.requires.lawful
