use Rattle.std.proofs.Common.{◌++◌, List, ◌<◌, None, map, sym, ap, ◌∙◌, subst}
use Rattle.std.specs.Prelude.{reverse}
use Rattle.std.proofs.lemmas.Result.{err_from_is_err_and}
use Rattle.graph_walk.specs.declared.walk.Step.{Step}
use Rattle.graph_walk.specs.Graph.{wanted}
use Rattle.graph_walk.specs.Walking.{IsOnWay, enters}
use Rattle.graph_walk.proofs.PendingLemmas.{stepped, refused, steps-fewer, steps-left, begun-way, popped-all}
use Rattle.graph_walk.proofs.walk.post_order.Goals as goal

pub steps-init : goal.steps-init
steps-init c = begun-way c.args.nodes.now c.args.starts.now (reverse c.push_enters.new.pending) c.in_ok-walked.walked
    c.in_ok-walked.ensures.marks c.in_ok-walked.ensures.nothing
    (c.in_ok-push_enters.ensures
    ∙ ap (λ (s : List Step). enters (map (wanted None) c.args.starts.now) ++ reverse s) c.new-pending.ensures)

pub steps-smaller : goal.steps-smaller
steps-smaller c =
    let e = popped-all c.steps.pending c.pop.new.self c.in-Some.step c.in-Some.ensures in
    let w = subst (λ (s : List Step). IsOnWay c.args.nodes.now c.args.starts.now s c.steps.walked) e
    c.steps.invariant in
    subst (λ (s : List Step). steps-left c.args.nodes.now (reverse c.take_step.new.pending) c.take_step.new.walked
    < steps-left c.args.nodes.now s c.steps.walked) (sym e)
    (steps-fewer c.args.nodes.now c.args.starts.now c.in-Some.step (reverse c.pop.new.self)
    (reverse c.take_step.new.pending) c.steps.walked c.take_step.new.walked w c.in_ok-take_step.ensures.ok)

pub steps-preserved : goal.steps-preserved
steps-preserved c =
    let e = popped-all c.steps.pending c.pop.new.self c.in-Some.step c.in-Some.ensures in
    let w = subst (λ (s : List Step). IsOnWay c.args.nodes.now c.args.starts.now s c.steps.walked) e
    c.steps.invariant in
    stepped c.args.nodes.now c.args.starts.now c.in-Some.step (reverse c.pop.new.self)
    (reverse c.take_step.new.pending) c.steps.walked c.take_step.new.walked w
    c.in_ok-take_step.ensures.ok

pub returns-in_err-take_step : goal.returns-in_err-take_step
returns-in_err-take_step c =
    let p = err_from_is_err_and c.from_residual-in_err-take_step.result c.from_residual-in_err-take_step.ensures.1 in
    let e = popped-all c.steps.pending c.pop.new.self c.in-Some.step c.in-Some.ensures in
    let w = subst (λ (s : List Step). IsOnWay c.args.nodes.now c.args.starts.now s c.steps.walked) e
    c.steps.invariant in
    rw (p.1, p.2) (refused c.args.nodes.now c.args.starts.now c.in-Some.step (reverse c.pop.new.self) c.steps.walked
    c.in_err-take_step.field-0.0 w c.in_err-take_step.ensures.err)
