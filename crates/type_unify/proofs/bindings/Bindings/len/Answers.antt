use Rattle.std.proofs.Common.{length, ap, sym, ◌∙◌}
use Rattle.type_unify.proofs.AttemptingLemmas.{length-bounds}
use Rattle.type_unify.proofs.bindings.Bindings.len.Goals as goal

pub returns : goal.returns
returns c = c.len.ensures.len ∙ sym (length-bounds c.self.inside.cells.items c.self.inside.entries.entries)
    ∙ ap length c.self.view_is
