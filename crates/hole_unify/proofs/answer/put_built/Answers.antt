use Rattle.std.proofs.Common.{length}
use Rattle.hole_unify.proofs.answer.put_built.Goals as goal

pub returns-in_ok-put_fill-clause-below : goal.returns-in_ok-put_fill-clause-below
returns-in_ok-put_fill-clause-below c = c.in_ok-put_fill.ensures.below (length c.args.table.now) c.requires.below
    (c.requires.built c.in-Some-built.ident c.in-Some-built.is)
