use Rattle.flat_text.specs.ModuleTexts.{import_text}
use Rattle.flat_text.proofs.TextLemmas.{pushed_three}
use Rattle.flat_text.proofs.print.push_import.Goals as goal

pub returns : goal.returns
unfolding import_text
returns c =
    pushed_three _ _ _ _ _ _ _ c.in_ok-extend_from_slice.ensures.items c.in_ok-extend_from_slice-2.ensures.items
    c.in_ok-extend_from_slice-3.ensures.items
