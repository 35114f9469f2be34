use Rattle.hs_core_laws.proofs.SmallerLemmas.{kinds_are_least}
use Rattle.hs_core_laws.proofs.examples.least_kinds.Goals as goal

pub returns : goal.returns
returns c = kinds_are_least
