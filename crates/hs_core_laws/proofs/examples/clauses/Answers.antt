use Rattle.hs_core_laws.proofs.SeveralClauseLemmas.{clauses_are_typed}
use Rattle.hs_core_laws.proofs.examples.clauses.Goals as goal

pub returns : goal.returns
returns c = clauses_are_typed
