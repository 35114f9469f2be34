use Rattle.hs_core_laws.proofs.SmallerLemmas.{values_match}
use Rattle.hs_core_laws.proofs.examples.matching.Goals as goal

pub returns : goal.returns
returns c = values_match
