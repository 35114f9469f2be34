use Rattle.kind_module.proofs.SchemeLemmas.{if_ok}
use Rattle.kind_module.proofs.ExpandLemmas.{made_same}
use Rattle.kind_module.proofs.expand.+noted.Goals as goal

pub returns-in_ok-arg-in-App-clause-same : goal.returns-in_ok-arg-in-App-clause-same
returns-in_ok-arg-in-App-clause-same t c =
    if_ok c.applied.result _ _ (λ z. made_same c.args.ty.now _ _ c.get.result.now c.get-in-App.result.now
    c.in_ok-fun-in-App.fun c.in_ok-arg-in-App.arg z c.in-App.is c.get.ensures c.get-in-App.ensures
    c.in_ok-fun-in-App.ensures.same c.in_ok-arg-in-App.ensures.same) c.applied.ensures.same
