use Rattle.std.proofs.Common.{ap, ◌∙◌}
use Rattle.hs_core.specs.Rename.{renamed_written}
use Rattle.hs_core.proofs.NameLemmas.{made-WApp}
use Rattle.hs_core.proofs.rename.+rename_written.Goals as goal

pub returns-in_ok-new-in-WApp-2 : goal.returns-in_ok-new-in-WApp-2
returns-in_ok-new-in-WApp-2 t c =
    made-WApp _ _ _ _ _ _ c.in-WApp.is (c.in_ok-new-in-WApp.ensures ∙ c.in_ok-fun-in-WApp.ensures
    ∙ ap (λ x. renamed_written x c.args.by.now) c.get.ensures) (c.in_ok-new-in-WApp-2.ensures
    ∙ c.in_ok-arg-in-WApp.ensures ∙ ap (λ x. renamed_written x c.args.by.now) c.get-in-WApp.ensures)
