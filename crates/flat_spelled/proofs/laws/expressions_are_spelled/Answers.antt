use Rattle.flat_spelled.proofs.ExpressionLemmas.{expressions_spelled}
use Rattle.flat_spelled.proofs.laws.expressions_are_spelled.Goals as goal

pub returns : goal.returns
returns c = expressions_spelled
