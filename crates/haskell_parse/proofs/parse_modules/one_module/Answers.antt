use Rattle.hs_one_tree.proofs.ModuleLemmas.{one_module}
use Rattle.haskell_parse.proofs.parse_modules.one_module.Goals as goal

pub returns : goal.returns
returns c = λ tokens one other first second. one_module tokens one other first second
