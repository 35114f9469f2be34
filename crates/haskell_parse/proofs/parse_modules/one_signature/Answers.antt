use Rattle.hs_one_tree.proofs.ModuleLemmas.{one_signature}
use Rattle.haskell_parse.proofs.parse_modules.one_signature.Goals as goal

pub returns : goal.returns
returns c = λ tokens one other first second. one_signature tokens one other first second
