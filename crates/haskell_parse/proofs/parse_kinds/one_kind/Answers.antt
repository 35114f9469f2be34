use Rattle.hs_trees.proofs.KindUniqueLemmas.{one_kind}
use Rattle.haskell_parse.proofs.parse_kinds.one_kind.Goals as goal

pub returns : goal.returns
returns c = λ tokens one other first second. one_kind tokens one other first second
