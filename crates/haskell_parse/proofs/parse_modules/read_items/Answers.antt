use Rattle.std.proofs.Common.{ap}
use Rattle.hs_forms.specs.Reading.{begins}
use Rattle.hs_headers.specs.Names.{is_signature_word}
use Rattle.haskell_parse.proofs.parse_modules.read_items.Goals as goal

pub read_signature_item-requires : goal.read_signature_item-requires
read_signature_item-requires c = ap (begins is_signature_word) c.in-Some.ensures
