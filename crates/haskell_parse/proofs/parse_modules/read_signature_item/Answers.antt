use Rattle.haskell_parse.proofs.ItemsLemmas.{signature_answers}
use Rattle.haskell_parse.proofs.parse_modules.read_signature_item.Goals as goal

pub returns : goal.returns
returns c =
    signature_answers c.args.limit c.args.tokens.now c.read_signature.result c.requires c.read_signature.ensures
