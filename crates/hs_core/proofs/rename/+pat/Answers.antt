use Rattle.std.proofs.Common.{ap, ◌∙◌}
use Rattle.hs_core.specs.Rename.{renamed_pat}
use Rattle.hs_core.proofs.PatternLemmas.{made-PCon, made-PAs}
use Rattle.hs_core.proofs.rename.+pat.Goals as goal

pub rename_pat-returns-in_ok-rename_pats-in-PCon : goal.rename_pat-returns-in_ok-rename_pats-in-PCon
rename_pat-returns-in_ok-rename_pats-in-PCon t c =
    made-PCon _ _ _ _ _ _ c.in-PCon.is c.in_ok-rename_name-in-PCon.ensures c.in_ok-rename_pats-in-PCon.ensures

pub rename_pat-returns-in_ok-new-in-PAs : goal.rename_pat-returns-in_ok-new-in-PAs
rename_pat-returns-in_ok-new-in-PAs t c = made-PAs _ _ _ _ _ _ c.in-PAs.is c.in_ok-copied-in-PAs.ensures
    (c.in_ok-new-in-PAs.ensures ∙ c.in_ok-pat-in-PAs.ensures ∙ ap (λ p. renamed_pat p c.args.by.now) c.get.ensures)
