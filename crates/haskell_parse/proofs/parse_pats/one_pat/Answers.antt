use Rattle.hs_trees.proofs.PatternUniqueLemmas.{one_pattern}
use Rattle.haskell_parse.proofs.parse_pats.one_pat.Goals as goal

pub returns : goal.returns
returns c = λ tokens one other first second. one_pattern tokens one other first second
