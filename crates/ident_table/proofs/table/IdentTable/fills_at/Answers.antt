use Rattle.std.proofs.Common.{length, subst, sym}
use Rattle.ident_table.specs.Numbers.{AreFillsBelow}
use Rattle.ident_table.proofs.table.IdentTable.fills_at.Goals as goal

pub fills_below-requires-clause-below : goal.fills_below-requires-clause-below
fills_below-requires-clause-below c = subst (λ n. AreFillsBelow n c.as_slice.result.now) (sym c.len.ensures.len)
    (subst (AreFillsBelow (length c.args.self.now)) (sym c.as_slice.ensures) c.requires)
