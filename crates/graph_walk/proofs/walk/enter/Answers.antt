use Rattle.std.proofs.Common.{◌≡◌, ◌++◌, ℕ, List, Some, true, false, get_or, map, refl, sym, ap, ◌∙◌}
use Rattle.std.specs.Prelude.{reverse}
use Rattle.std.proofs.lemmas.Bool.{not-true, not-false}
use Rattle.std.proofs.lemmas.List.{get_or_read}
use Rattle.std.proofs.lemmas.Result.{on_ok_weaker, err_from_is_err_and}
use Rattle.graph_walk.specs.declared.walk.Node.{Node}
use Rattle.graph_walk.specs.declared.walk.Step.{Step}
use Rattle.graph_walk.specs.declared.walk.Step.TheVariants.{Enter, Leave}
use Rattle.graph_walk.specs.declared.walk.Mark.{Mark}
use Rattle.graph_walk.specs.declared.walk.Mark.TheVariants.{New}
use Rattle.graph_walk.specs.Graph.{uses_at, is_there, no_node, wanted}
use Rattle.graph_walk.specs.Walking.{enters, mark_at}
use Rattle.graph_walk.specs.Walking.IsStep.{again, begins}
use Rattle.graph_walk.specs.Walking.StopsAt.{absent, begun, lacking}
use Rattle.graph_walk.proofs.PendingLemmas.{popped-all, there-below}
use Rattle.graph_walk.proofs.walk.enter.Goals as goal

pub returns-then-not-is_there-clause-err : goal.returns-then-not-is_there-clause-err
returns-then-not-is_there-clause-err c = absent c.args.wanted c.args.walked.now
    (sym c.is_there.ensures ∙ c.if-not-is_there.true)

pub returns-in_err-push-in-New-clause-err : goal.returns-in_err-push-in-New-clause-err
returns-in_err-push-in-New-clause-err c =
    let p = err_from_is_err_and c.from_residual.result c.from_residual.ensures.1 in
    rw (p.1, p.2) (lacking (Enter c.args.wanted) c.args.walked.now)

pub returns-in_err-push_enters-in-New-clause-err : goal.returns-in_err-push_enters-in-New-clause-err
returns-in_err-push_enters-in-New-clause-err c =
    let r = c.from_residual-in_err-push_enters-in-New in
    let p = err_from_is_err_and r.result r.ensures.1 in
    rw (p.1, p.2) (lacking (Enter c.args.wanted) c.args.walked.now)

pub returns-in-Done-clause-ok : goal.returns-in-Done-clause-ok
returns-in-Done-clause-ok c = again c.args.wanted _ _ _
    (sym c.is_there.ensures ∙ c.if-not-is_there.false)
    (ap (λ (ms : List Mark). mark_at ms c.args.wanted.to) (sym c.as_slice.ensures) ∙ c.in-Done.is) refl

pub returns-in-Begun-clause-err : goal.returns-in-Begun-clause-err
returns-in-Begun-clause-err c = begun c.args.wanted c.args.walked.now
    (sym c.is_there.ensures ∙ c.if-not-is_there.false)
    (ap (λ (ms : List Mark). mark_at ms c.args.wanted.to) (sym c.as_slice.ensures) ∙ c.in-Begun.is)

pub returns-in_ok-push_enters-in-New-clause-ok : goal.returns-in_ok-push_enters-in-New-clause-ok
returns-in_ok-push_enters-in-New-clause-ok c = begins c.args.wanted _ _ _ _
    (sym c.is_there.ensures ∙ c.if-not-is_there.false)
    (ap (λ (ms : List Mark). mark_at ms c.args.wanted.to) (sym c.as_slice.ensures) ∙ c.in-New.is)
    (c.in_ok-push_enters-in-New.ensures
    ∙ ap (λ (us : List ℕ). enters (map (wanted (Some c.args.wanted.to)) us) ++ reverse c.push.new.self)
    c.as_slice-in-New.ensures
    ∙ ap (λ (n : Node). enters (map (wanted (Some c.args.wanted.to)) n.uses) ++ reverse c.push.new.self)
    (sym c.index-nodes-at.is ∙ get_or_read c.args.nodes.now c.args.wanted.to c.index-nodes-at.result
    (there-below c.args.nodes.now c.args.wanted.to (sym c.is_there.ensures ∙ c.if-not-is_there.false)) c.index-nodes-at.is no_node)
    ∙ ap (λ (s : List Step). enters (map (wanted (Some c.args.wanted.to)) (uses_at c.args.nodes.now c.args.wanted.to))
    ++ s) (popped-all c.push.new.self c.args.pending.now (Leave c.args.wanted.to) c.in_ok-push-in-New.ensures.ok))
    c.set.ensures refl
