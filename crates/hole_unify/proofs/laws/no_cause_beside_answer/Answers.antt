use Rattle.hole_unify.proofs.CauseLemmas.{no_cause_beside_answer}
use Rattle.hole_unify.proofs.laws.no_cause_beside_answer.Goals as goal

pub returns : goal.returns
returns c = no_cause_beside_answer
