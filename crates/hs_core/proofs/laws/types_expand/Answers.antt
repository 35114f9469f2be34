use Rattle.hs_core.proofs.ExpansionLemmas.{expansion_exists, expansion_is_one, none_is_left}
use Rattle.hs_core.proofs.laws.types_expand.Goals as goal

pub returns-clause-exists : goal.returns-clause-exists
returns-clause-exists c = expansion_exists

pub returns-clause-one : goal.returns-clause-one
returns-clause-one c = expansion_is_one

pub returns-clause-none_left : goal.returns-clause-none_left
returns-clause-none_left c = none_is_left
