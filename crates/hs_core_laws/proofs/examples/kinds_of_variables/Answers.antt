use Rattle.hs_core_laws.proofs.RefutingLemmas.{kinds_are_kept}
use Rattle.hs_core_laws.proofs.examples.kinds_of_variables.Goals as goal

pub returns : goal.returns
returns c = kinds_are_kept
