use Rattle.hole_unify.proofs.CauseLemmas.{causes_are_one}
use Rattle.hole_unify.proofs.laws.causes_are_one.Goals as goal

pub returns : goal.returns
returns c = causes_are_one
