use Rattle.hs_core.proofs.GlobalsLemmas.{kind_is_one, first_counts}
use Rattle.hs_core.proofs.laws.names_mean_one_thing.Goals as goal

pub returns-clause-kind : goal.returns-clause-kind
returns-clause-kind c = kind_is_one

pub returns-clause-first : goal.returns-clause-first
returns-clause-first c = first_counts
