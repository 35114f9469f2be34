use Rattle.flat_spelled.proofs.ExpressionLemmas.{declarations_spelled}
use Rattle.flat_spelled.proofs.laws.declarations_are_spelled.Goals as goal

pub returns : goal.returns
returns c = declarations_spelled
