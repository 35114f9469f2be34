use Rattle.kind_module.proofs.SchemeLemmas.{met_both, on_ok}
use Rattle.kind_module.proofs.scheme.+meet.Goals as goal

pub returns-in_ok-meet-in-App : goal.returns-in_ok-meet-in-App
returns-in_ok-meet-in-App t c =
    on_ok c.meet-in-App.result _ _ (met_both c.args.met.now c.meet.new.met c.meet-in-App.new.met c.args.ty.now _ _
    c.get.result.now c.get-in-App.result.now c.in-App.is c.get.ensures c.get-in-App.ensures
    c.in_ok-meet-in-App.ensures) c.meet-in-App.ensures
