use Rattle.flat_spelled.proofs.TypeLemmas.{types_spelled}
use Rattle.flat_spelled.proofs.laws.types_are_spelled.Goals as goal

pub returns : goal.returns
returns c = types_spelled
