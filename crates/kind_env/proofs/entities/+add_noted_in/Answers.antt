use Rattle.std.proofs.Common.{sym, ap, ap₂, ◌∙◌, ◌++◌}
use Rattle.type_unify.proofs.StackingLemmas.{OnOk-then}
use Rattle.hs_core.specs.Globals.{noted_in}
use Rattle.kind_env.proofs.ListLemmas.{adds_both, adds_same, noted_app}
use Rattle.kind_env.proofs.entities.+add_noted_in.Goals as goal

pub returns-in_ok-add_noted_in-in-App : goal.returns-in_ok-add_noted_in-in-App
returns-in_ok-add_noted_in-in-App t c =
    OnOk-then c.add_noted_in-in-App.result
    (λ e. adds_same _ _ _ _
    (ap₂ (λ x y. noted_in x ++ noted_in y) c.get.ensures c.get-in-App.ensures
    ∙ sym (ap noted_in c.in-App.is ∙ noted_app c.in-App.fun c.in-App.arg))
    (adds_both (noted_in c.get.result.now) (noted_in c.get-in-App.result.now) _ _ _
    c.in_ok-add_noted_in-in-App.ensures e)) c.add_noted_in-in-App.ensures
