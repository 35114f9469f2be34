use Rattle.std.proofs.Common.{◌≡◌, ◌<◌, length, subst, sym}
use Rattle.std.specs.Prelude.{slice_get, Some}
use Rattle.ident_table.specs.Numbers.{node_of}
use Rattle.ident_table.proofs.NodeLemmas.{length-idents, ident-of-node}
use Rattle.ident_table.proofs.table.IdentTable.node_at.Goals as goal

pub index-requires : goal.index-requires
index-requires c = subst (λ n. c.args.number < n) (length-idents c.self.inside.nodes.keys)
    (subst (λ t. c.args.number < length t) (sym c.self.view_is) c.requires)

pub returns-clause-ident : goal.returns-clause-ident
returns-clause-ident c =
    subst (λ t. slice_get t c.args.number ≡ Some (node_of t c.index.result.now)) c.self.view_is
    (ident-of-node c.self.inside.nodes.keys c.args.number c.index.result.now c.self.invariant c.index.ensures)
