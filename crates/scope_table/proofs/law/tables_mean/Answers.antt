use Rattle.scope_table.proofs.MeantLemmas.{tables_mean}
use Rattle.scope_table.proofs.law.tables_mean.Goals as goal

pub returns : goal.returns
returns c = tables_mean
