use Rattle.hs_one_tree.proofs.ModuleLemmas.{one_items}
use Rattle.haskell_parse.proofs.parse_modules.one_item.Goals as goal

pub returns : goal.returns
returns c = λ tokens one other first second. one_items tokens one other first second
