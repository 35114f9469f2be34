use Rattle.std.proofs.Common.{refl, sym, subst}
use Rattle.std.specs.Prelude.{reverse}
use Rattle.std.proofs.lemmas.Result.{on_ok_weaker}
use Rattle.hs_core.specs.declared.group.Step.{Step}
use Rattle.hs_core.specs.Walking.{IsStep}
use Rattle.hs_core.specs.Walking.IsStep.{leaves}
use Rattle.hs_core.proofs.group.take_step.Goals as goal

pub returns-in-Leave : goal.returns-in-Leave
returns-in-Leave c = on_ok_weaker c.push.result
    (λ h. subst (λ (s : Step). IsStep c.args.uses.now s (reverse c.args.pending.now) c.args.walked.now
    (reverse c.args.pending.now) (record { begun = c.args.walked.now.begun; done = c.push.new.self }))
    (sym c.in-Leave.is)
    (leaves c.in-Leave.index _ _ _ _ refl refl h)) c.push.ensures.ok
