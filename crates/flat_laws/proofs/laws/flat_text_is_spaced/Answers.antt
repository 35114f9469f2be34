use Rattle.flat_laws.proofs.SpacingLemmas.{module_apart}
use Rattle.flat_laws.proofs.laws.flat_text_is_spaced.Goals as goal

pub returns : goal.returns
returns c = module_apart
