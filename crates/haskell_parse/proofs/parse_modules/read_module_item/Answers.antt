use Rattle.haskell_parse.proofs.ItemsLemmas.{module_answers}
use Rattle.haskell_parse.proofs.parse_modules.read_module_item.Goals as goal

pub returns : goal.returns
returns c = module_answers c.args.limit c.args.tokens.now c.read_module.result c.requires c.read_module.ensures
