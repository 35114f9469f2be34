use Rattle.hs_core_laws.proofs.DerivationLemmas.{let_is_generalised}
use Rattle.hs_core_laws.proofs.RefutingLemmas.{lambda_is_not_generalised}
use Rattle.hs_core_laws.proofs.examples.generalisation.Goals as goal

pub returns-clause-typed : goal.returns-clause-typed
returns-clause-typed c = let_is_generalised

pub returns-clause-refuted : goal.returns-clause-refuted
returns-clause-refuted c = lambda_is_not_generalised
