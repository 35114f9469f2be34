use Rattle.flat_renaming.proofs.KeptLemmas.{texts_kept}
use Rattle.flat_renaming.proofs.laws.renaming_keeps_texts.Goals as goal

pub returns : goal.returns
returns c = texts_kept
