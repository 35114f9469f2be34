use Rattle.std.proofs.Common.{length, ap, sym, subst, ◌∙◌}
use Rattle.ident_table.specs.Numbers.{IsIdentTable}
use Rattle.ident_table.proofs.NodeLemmas.{length-idents, IsIdentTable-nodes}
use Rattle.ident_table.proofs.table.IdentTable.len.Goals as goal

pub returns-clause-len : goal.returns-clause-len
returns-clause-len c = c.len.ensures.len ∙ sym (length-idents c.self.inside.nodes.keys) ∙ ap length c.self.view_is

pub returns-clause-table : goal.returns-clause-table
returns-clause-table c = subst IsIdentTable c.self.view_is
    (IsIdentTable-nodes c.self.inside.nodes.keys c.self.invariant)
