use Rattle.kind_module.proofs.SchemeLemmas.{made, if_ok}
use Rattle.kind_module.proofs.scheme.+renumbered.Goals as goal

pub returns-in_ok-arg-in-App : goal.returns-in_ok-arg-in-App
returns-in_ok-arg-in-App t c =
    if_ok c.applied.result _ _ (λ z. made c.args.met.now c.args.ty.now _ _ c.get.result.now c.get-in-App.result.now
    c.in_ok-fun-in-App.fun c.in_ok-arg-in-App.arg z c.in-App.is c.get.ensures c.get-in-App.ensures
    c.in_ok-fun-in-App.ensures c.in_ok-arg-in-App.ensures) c.applied.ensures
