use Rattle.std.proofs.Common.{◌∙◌, List, length, ap}
use Rattle.std.specs.Prelude.{not, ◌==◌}
use Rattle.hs_core.specs.declared.tree.Pat.{Pat}
use Rattle.flat_text.proofs.PatternLemmas.{pushed_PCon, pushed_PAs}
use Rattle.flat_text.proofs.pattern.+patterns.Goals as goal

pub push_pat-returns-in_ok-push_close-in-PCon : goal.push_pat-returns-in_ok-push_close-in-PCon
push_pat-returns-in_ok-push_close-in-PCon t c =
    pushed_PCon _ _ _ _ _ _ _ _ _ c.in-PCon.is (ap not (c.is_empty-brackets.ensures
    ∙ ap (λ (l : List Pat). length l == 0) c.as_slice-in-PCon.ensures)) c.in_ok-push_open-in-PCon.ensures
    c.in_ok-push_global-in-PCon.ensures c.in_ok-push_pats-in-PCon.ensures c.in_ok-push_close-in-PCon.ensures

pub push_pat-returns-in_ok-push_pat-in-PAs : goal.push_pat-returns-in_ok-push_pat-in-PAs
push_pat-returns-in_ok-push_pat-in-PAs t c =
    pushed_PAs _ _ _ _ _ _ _ _ c.in-PAs.is c.get.ensures c.in_ok-push_bare-in-PAs.ensures
    c.in_ok-extend_from_slice-in-PAs.ensures.items c.in_ok-push_pat-in-PAs.ensures
