use Rattle.hole_unify.proofs.UnifyingLemmas.{clash_has_no_unifier}
use Rattle.hole_unify.proofs.laws.clash_has_no_unifier.Goals as goal

pub returns : goal.returns
returns c = clash_has_no_unifier
