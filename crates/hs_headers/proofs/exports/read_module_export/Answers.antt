use Rattle.hs_headers.proofs.ExportLemmas.{export_module_open}
use Rattle.hs_headers.proofs.exports.read_module_export.Goals as goal

pub returns-in_default : goal.returns-in_default
returns-in_default c =
    export_module_open c.args.tokens.now c.in_default.ensures
