use Rattle.type_drafts.proofs.DraftLemmas.{made, if_ok}
use Rattle.type_drafts.proofs.entities.+draft_type.Goals as goal

pub returns-in_ok-arg-in-WApp : goal.returns-in_ok-arg-in-WApp
returns-in_ok-arg-in-WApp t c =
    if_ok c.draft_app.result _ _ (λ z. made c.args.params.now c.args.ty.now _ _ c.get.result.now
    c.get-in-WApp.result.now c.in_ok-fun-in-WApp.fun c.in_ok-arg-in-WApp.arg z c.in-WApp.is c.get.ensures
    c.get-in-WApp.ensures c.in_ok-fun-in-WApp.ensures c.in_ok-arg-in-WApp.ensures) c.draft_app.ensures
