use Rattle.hs_one_tree.proofs.OneTreeLemmas.{one_exp}
use Rattle.haskell_parse.proofs.parse_exps.one_exp.Goals as goal

pub returns : goal.returns
returns c = λ tokens one other first second. one_exp tokens one other first second
