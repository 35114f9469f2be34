use Rattle.hs_core_laws.proofs.SmallerLemmas.{rigid_variables_stay}
use Rattle.hs_core_laws.proofs.DerivationLemmas.{identity_is_typed}
use Rattle.hs_core_laws.proofs.RefutingLemmas.{conversion_is_not_typed}
use Rattle.hs_core_laws.proofs.examples.rigid_variables.Goals as goal

pub returns-clause-typed : goal.returns-clause-typed
returns-clause-typed c = identity_is_typed

pub returns-clause-refuted : goal.returns-clause-refuted
returns-clause-refuted c = conversion_is_not_typed

pub returns-clause-escaping : goal.returns-clause-escaping
returns-clause-escaping c = rigid_variables_stay
