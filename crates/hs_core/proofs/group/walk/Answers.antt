use Rattle.std.proofs.Common.{◌++◌, List, ◌<◌, inl, sym, ap, ◌∙◌, subst}
use Rattle.std.specs.Prelude.{reverse}
use Rattle.hs_core.specs.declared.group.Step.{Step}
use Rattle.hs_core.specs.Walking.{IsOnWay, enters}
use Rattle.hs_core.proofs.PendingLemmas.{stepped, steps-fewer, steps-left, begun-way, ended-way, popped-all}
use Rattle.hs_core.proofs.group.walk.Goals as goal

pub steps-init : goal.steps-init
steps-init c = begun-way c.args.uses.now c.args.starts.now
    (reverse c.push_enters.new.pending) c.args.walked.now c.requires.starts c.requires.rest
    (c.in_ok-push_enters.ensures ∙ ap (λ (s : List Step). enters c.args.starts.now ++ reverse s) c.new-pending.ensures)

pub take_step-requires-clause-below : goal.take_step-requires-clause-below
take_step-requires-clause-below c = λ v e.
    let w = subst (λ (s : List Step). IsOnWay c.args.uses.now c.args.starts.now c.args.walked.now.done s c.steps.walked)
    (popped-all c.steps.pending c.pop.new.self c.in-Some.step c.in-Some.ensures) c.steps.invariant in
    w.below v (inl e)

pub steps-smaller : goal.steps-smaller
steps-smaller c =
    let e = popped-all c.steps.pending c.pop.new.self c.in-Some.step c.in-Some.ensures in
    let w = subst (λ (s : List Step). IsOnWay c.args.uses.now c.args.starts.now c.args.walked.now.done s c.steps.walked)
    e c.steps.invariant in
    subst (λ (s : List Step). steps-left c.args.uses.now
    (reverse c.take_step.new.pending) c.take_step.new.walked < steps-left c.args.uses.now s c.steps.walked) (sym e)
    (steps-fewer c.args.uses.now c.args.starts.now c.args.walked.now.done c.in-Some.step (reverse c.pop.new.self)
    (reverse c.take_step.new.pending) c.steps.walked c.take_step.new.walked w c.in_ok-take_step.ensures)

pub steps-preserved : goal.steps-preserved
steps-preserved c =
    let e = popped-all c.steps.pending c.pop.new.self c.in-Some.step c.in-Some.ensures in
    let w = subst (λ (s : List Step). IsOnWay c.args.uses.now c.args.starts.now c.args.walked.now.done s c.steps.walked)
    e c.steps.invariant in
    stepped c.args.uses.now c.args.starts.now c.args.walked.now.done c.in-Some.step (reverse c.pop.new.self)
    (reverse c.take_step.new.pending) c.steps.walked c.take_step.new.walked c.requires.in_range w
    c.in_ok-take_step.ensures

pub returns : goal.returns
returns c = ended-way c.args.uses.now c.args.starts.now c.args.walked.now c.steps.walked
    (subst (λ (s : List Step). IsOnWay c.args.uses.now c.args.starts.now c.args.walked.now.done s c.steps.walked)
    (ap reverse c.in_default.ensures.0) c.steps.invariant)
