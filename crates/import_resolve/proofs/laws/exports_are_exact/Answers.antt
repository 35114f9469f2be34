use Rattle.import_resolve.proofs.ExportLemmas.{exports_are_exact}
use Rattle.import_resolve.proofs.laws.exports_are_exact.Goals as goal

pub returns : goal.returns
returns c = exports_are_exact
