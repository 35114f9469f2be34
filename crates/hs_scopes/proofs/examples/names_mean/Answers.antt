use Rattle.hs_scopes.proofs.ExampleLemmas.{names_mean}
use Rattle.hs_scopes.proofs.examples.names_mean.Goals as goal

pub returns : goal.returns
returns c = names_mean
