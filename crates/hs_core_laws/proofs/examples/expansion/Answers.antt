use Rattle.hs_core_laws.proofs.SmallerLemmas.{string_expands}
use Rattle.hs_core_laws.proofs.examples.expansion.Goals as goal

pub returns : goal.returns
returns c = string_expands
