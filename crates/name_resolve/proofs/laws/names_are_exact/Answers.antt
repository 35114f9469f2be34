use Rattle.name_resolve.proofs.ExactLemmas.{names_are_exact}
use Rattle.name_resolve.proofs.laws.names_are_exact.Goals as goal

pub returns : goal.returns
returns c = names_are_exact
