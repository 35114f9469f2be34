use Rattle.kind_module.proofs.ExactLemmas.{kinds_exact}
use Rattle.kind_module.proofs.law.kinds_have_one_outcome.Goals as goal

pub returns : goal.returns
returns c = kinds_exact
