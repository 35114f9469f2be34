use Rattle.std.proofs.Common.{◌∙◌}
use Rattle.type_unify.proofs.SeeingLemmas.{IfNone-holds, IfSome-Nearer, IfNone-free, free-other}
use Rattle.type_unify.proofs.walk.bound_at.Goals as goal

pub returns-in_err-id-clause-none : goal.returns-in_err-id-clause-none
returns-in_err-id-clause-none c =
    IfNone-holds _ (free-other c.args.cells.now c.args.entries.now.entries c.args.here c.index-cells-here.result
    c.requires.stands c.requires.within c.index-cells-here.is c.in_err-id.ensures.none)

pub returns-clause-some : goal.returns-clause-some
returns-clause-some c =
    IfSome-Nearer c.args.cells.now c.args.entries.now.entries c.args.here c.in_ok-id.id c.index-cells-here.result _
    c.requires.stands c.requires.within c.index-cells-here.is c.in_ok-id.ensures.some (c.copied.ensures
    ∙ c.get.ensures.value)

pub returns-clause-none : goal.returns-clause-none
returns-clause-none c =
    IfNone-free c.args.cells.now c.args.entries.now.entries c.args.here c.in_ok-id.id c.index-cells-here.result _
    c.requires.stands c.requires.within c.index-cells-here.is c.in_ok-id.ensures.some (c.copied.ensures
    ∙ c.get.ensures.value)
