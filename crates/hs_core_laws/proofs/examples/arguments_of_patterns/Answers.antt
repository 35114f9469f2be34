use Rattle.hs_core_laws.proofs.SmallerLemmas.{arguments_are_counted}
use Rattle.hs_core_laws.proofs.examples.arguments_of_patterns.Goals as goal

pub returns : goal.returns
returns c = arguments_are_counted
