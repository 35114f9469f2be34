use Rattle.std.proofs.Common.{ap, ◌∙◌}
use Rattle.kind_check.specs.Forms.{settled}
use Rattle.kind_check.proofs.StackLemmas.{settled-push}
use Rattle.kind_check.proofs.answer.settled_kinds.Goals as goal

pub loop-id-preserved : goal.loop-id-preserved
loop-id-preserved c = (
  settled-push (settled c.args.bindings.now) c.loop-id.id c.loop-id.kinds c.push.new.self _ c.in_ok-push.ensures.ok
      (c.in_ok-settled_kind.ensures.ok ∙ ap (λ b. settled b c.loop-id.id) c.loop-id.invariant.1) c.loop-id.invariant.0,
  c.settled_kind.ensures.same ∙ c.loop-id.invariant.1,
)
