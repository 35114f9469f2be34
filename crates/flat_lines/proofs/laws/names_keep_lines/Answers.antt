use Rattle.flat_lines.proofs.KeepLemmas.{names_kept}
use Rattle.flat_lines.proofs.laws.names_keep_lines.Goals as goal

pub returns : goal.returns
returns c = names_kept
