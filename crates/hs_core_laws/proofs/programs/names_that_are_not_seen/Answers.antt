use Rattle.hs_core_laws.proofs.NameExamples.{hidden_types_have_kinds, negate_is_known}
use Rattle.hs_core_laws.proofs.programs.names_that_are_not_seen.Goals as goal

pub returns-clause-hidden_type : goal.returns-clause-hidden_type
returns-clause-hidden_type c = hidden_types_have_kinds

pub returns-clause-negate : goal.returns-clause-negate
returns-clause-negate c = negate_is_known
