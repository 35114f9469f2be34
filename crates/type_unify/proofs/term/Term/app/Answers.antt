use Rattle.std.proofs.Common.{ap₂, ◌∙◌}
use Rattle.type_terms.specs.Terms.{app}
use Rattle.type_unify.specs.Written.{spelled}
use Rattle.type_unify.proofs.SpellingLemmas.{spelled_is, AreNodesOf-own, AreNodesOf-app, AreNodesOf-swapped}
use Rattle.type_unify.proofs.term.Term.app.Goals as goal

pub invariant_of-result : goal.invariant_of-result
invariant_of-result c =
    AreNodesOf-own c.in_ok-joined.field-0.items (app (spelled c.fun.inside.nodes.items)
    (spelled c.arg.inside.nodes.items)) (AreNodesOf-swapped c.fun.inside.nodes.items c.arg.inside.nodes.items
    c.in_ok-joined.field-0.items (spelled c.fun.inside.nodes.items)
    (spelled c.arg.inside.nodes.items) c.in_ok-joined.ensures c.fun.invariant c.arg.invariant)

pub returns-then-len : goal.returns-then-len
returns-then-len c =
    spelled_is c.in_ok-joined.field-0.items (app (spelled c.fun.inside.nodes.items) (spelled c.arg.inside.nodes.items))
    (AreNodesOf-swapped c.fun.inside.nodes.items c.arg.inside.nodes.items c.in_ok-joined.field-0.items
    (spelled c.fun.inside.nodes.items) (spelled c.arg.inside.nodes.items) c.in_ok-joined.ensures c.fun.invariant
    c.arg.invariant)
    ∙ ap₂ app c.fun.view_is c.arg.view_is

pub invariant_of-result-2 : goal.invariant_of-result-2
invariant_of-result-2 c =
    AreNodesOf-own c.in_ok-joined-2.field-0.items (app (spelled c.fun.inside.nodes.items)
    (spelled c.arg.inside.nodes.items)) (AreNodesOf-app c.fun.inside.nodes.items c.arg.inside.nodes.items
    c.in_ok-joined-2.field-0.items (spelled c.fun.inside.nodes.items)
    (spelled c.arg.inside.nodes.items) c.in_ok-joined-2.ensures c.fun.invariant c.arg.invariant)

pub returns : goal.returns
returns c =
    spelled_is c.in_ok-joined-2.field-0.items (app (spelled c.fun.inside.nodes.items)
    (spelled c.arg.inside.nodes.items)) (AreNodesOf-app c.fun.inside.nodes.items c.arg.inside.nodes.items
    c.in_ok-joined-2.field-0.items (spelled c.fun.inside.nodes.items)
    (spelled c.arg.inside.nodes.items) c.in_ok-joined-2.ensures c.fun.invariant c.arg.invariant)
    ∙ ap₂ app c.fun.view_is c.arg.view_is
