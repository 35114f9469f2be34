use Rattle.hs_scopes.proofs.MeaningLemmas.{meanings_are_in_scope, meant_is_meaning}
use Rattle.hs_scopes.proofs.laws.meanings_are_in_scope.Goals as goal

pub returns-clause-seen : goal.returns-clause-seen
returns-clause-seen c = meanings_are_in_scope

pub returns-clause-meant : goal.returns-clause-meant
returns-clause-meant c = meant_is_meaning
