use Rattle.std.proofs.Common.{ap₂, ◌∙◌}
use Rattle.type_unify.specs.Types.{resolved}
use Rattle.type_unify.specs.Written.{spelled}
use Rattle.type_unify.specs.Cells.{bounds}
use Rattle.type_unify.proofs.SpellingLemmas.{spelled_is, AreNodesOf-own, AreNodesOf-made, spelled-made}
use Rattle.type_unify.proofs.bindings.Bindings.resolve.Goals as goal

pub from_nodes-requires : goal.from_nodes-requires
from_nodes-requires c =
    AreNodesOf-own c.in_ok-nodes.field-0.items (resolved
    (bounds c.self.inside.cells.items c.self.inside.entries.entries) (spelled c.nodes.result.now))
    (AreNodesOf-made c.in_ok-nodes.field-0.items (resolved
    (bounds c.self.inside.cells.items c.self.inside.entries.entries) (spelled c.nodes.result.now))
    c.in_ok-nodes.ensures.ok)

pub returns-clause-ok : goal.returns-clause-ok
returns-clause-ok c =
    c.from_nodes.ensures ∙ spelled-made c.in_ok-nodes.field-0.items
    (resolved (bounds c.self.inside.cells.items c.self.inside.entries.entries) (spelled c.nodes.result.now))
    c.in_ok-nodes.ensures.ok
    ∙ ap₂ resolved c.self.view_is (spelled_is c.nodes.result.now c.args.term.now c.nodes.ensures)
