use Rattle.type_unify.proofs.StackingLemmas.{OnOk-then}
use Rattle.kind_check.proofs.WrittenLemmas.{met_both}
use Rattle.kind_check.proofs.written.+meet.Goals as goal

pub returns-in_ok-meet-in-WApp : goal.returns-in_ok-meet-in-WApp
returns-in_ok-meet-in-WApp t c =
    OnOk-then c.meet-in-WApp.result
    (λ e. met_both c.args.met.now c.meet.new.met c.meet-in-WApp.new.met c.args.ty.now _ _ _ _ c.in-WApp.is c.get.ensures
    c.get-in-WApp.ensures c.in_ok-meet-in-WApp.ensures e) c.meet-in-WApp.ensures
