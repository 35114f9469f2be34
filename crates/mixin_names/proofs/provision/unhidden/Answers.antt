use Rattle.std.proofs.Common.{arith}
use Rattle.std.proofs.lemmas.Grind.{common_steps}
use Rattle.mixin_names.proofs.provision.unhidden.Goals.{then-not-contains+in_ok-copied+in_ok-push, else-not-contains}
use Rattle.mixin_names.proofs.provision.unhidden.Goals as goal

pub loop-each-preserved : goal.loop-each-preserved
loop-each-preserved c =
    let h = c.in_ok-hidden.ensures c.each-item.result.name in
    elim c.if-not-contains.branch [
      | then-not-contains+in_ok-copied+in_ok-push w ↦ grind (arith, common_steps, h)
      | else-not-contains w ↦ grind (arith, common_steps, h)
    ]
