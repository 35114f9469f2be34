use Rattle.hs_trees.proofs.TypeUniqueLemmas.{one_type}
use Rattle.haskell_parse.proofs.parse_types.one_type.Goals as goal

pub returns : goal.returns
returns c = λ tokens one other first second. one_type tokens one other first second
