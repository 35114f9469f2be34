use Rattle.std.proofs.Common.{ap, ◌∙◌}
use Rattle.hs_core.specs.Rename.{renamed_ty}
use Rattle.hs_core.proofs.NameLemmas.{made-App}
use Rattle.hs_core.proofs.rename.+rename_ty.Goals as goal

pub returns-in_ok-new-in-App-2 : goal.returns-in_ok-new-in-App-2
returns-in_ok-new-in-App-2 t c =
    made-App _ _ _ _ _ _ c.in-App.is (c.in_ok-new-in-App.ensures ∙ c.in_ok-fun-in-App.ensures
    ∙ ap (λ x. renamed_ty x c.args.by.now) c.get.ensures) (c.in_ok-new-in-App-2.ensures ∙ c.in_ok-arg-in-App.ensures
    ∙ ap (λ x. renamed_ty x c.args.by.now) c.get-in-App.ensures)
