use Rattle.hs_scopes.proofs.MeaningLemmas.{names_are_exact}
use Rattle.hs_scopes.proofs.laws.names_have_one_meaning.Goals as goal

pub returns : goal.returns
returns c = names_are_exact
