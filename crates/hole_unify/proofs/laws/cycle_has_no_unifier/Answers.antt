use Rattle.hole_unify.proofs.UnifyingLemmas.{cycle_has_no_unifier}
use Rattle.hole_unify.proofs.laws.cycle_has_no_unifier.Goals as goal

pub returns : goal.returns
returns c = cycle_has_no_unifier
