use Rattle.hole_unify.proofs.AgreementLemmas.{answers_are_one}
use Rattle.hole_unify.proofs.laws.answers_are_one.Goals as goal

pub returns : goal.returns
returns c = answers_are_one
