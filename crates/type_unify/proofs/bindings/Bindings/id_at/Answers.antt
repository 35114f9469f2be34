use Rattle.type_unify.proofs.AttemptingLemmas.{id_is}
use Rattle.type_unify.proofs.bindings.Bindings.id_at.Goals as goal

pub returns-in-Some : goal.returns-in-Some
returns-in-Some c =
    id_is c.self.inside.cells.items c.self.inside.entries.entries c.args.index _ c.args.self.now c.in-Some.ensures.entry
    c.self.view_is

pub returns-in-None : goal.returns-in-None
returns-in-None c =
    id_is c.self.inside.cells.items c.self.inside.entries.entries c.args.index _ c.args.self.now c.in-None.ensures.entry
    c.self.view_is
