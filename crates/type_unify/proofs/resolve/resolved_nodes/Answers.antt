use Rattle.std.proofs.Common.{ap, ◌∙◌, ◌++◌}
use Rattle.type_unify.specs.Written.{nodes_of, spelled}
use Rattle.type_unify.specs.Cells.{seen}
use Rattle.type_unify.proofs.AttemptingLemmas.{seen-taken}
use Rattle.type_unify.proofs.resolve.resolved_nodes.Goals as goal

pub returns-clause-ok : goal.returns-clause-ok
returns-clause-ok c =
    c.in_ok-spell.ensures ∙ ap (λ o. o ++ nodes_of
    (seen c.deref.result.now c.args.entries.now.entries c.in_ok-start.start)) c.new-out.ensures.items
    ∙ ap nodes_of (ap (λ cs. seen cs c.args.entries.now.entries c.in_ok-start.start) c.deref.ensures.value
    ∙ seen-taken c.args.cells.now.items c.take_in.new.cells.items c.args.entries.now.entries
    (spelled c.args.nodes.now) c.in_ok-start.start c.requires.stands c.in_ok-start.ensures.ok)
