use Rattle.hs_one_tree.proofs.OneTreeLemmas.{one_decl}
use Rattle.haskell_parse.proofs.parse_exps.one_decl.Goals as goal

pub returns : goal.returns
returns c = λ tokens one other first second. one_decl tokens one other first second
