use Rattle.hs_headers.proofs.ImportLemmas.{imported_none}
use Rattle.hs_headers.proofs.imports.read_imported.Goals as goal

pub returns-in_default : goal.returns-in_default
returns-in_default c =
    imported_none c.args.tokens.now c.in_default.ensures
