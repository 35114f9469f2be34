use Rattle.mixin_link.proofs.EquationLemmas.{linkings_are_unifiers}
use Rattle.mixin_link.proofs.laws.linkings_are_unifiers.Goals as goal

pub returns : goal.returns
returns c = linkings_are_unifiers
