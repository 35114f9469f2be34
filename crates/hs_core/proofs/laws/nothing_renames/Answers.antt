use Rattle.hs_core.proofs.TreesNothingLemmas.{body-same}
use Rattle.hs_core.proofs.laws.nothing_renames.Goals as goal

pub returns : goal.returns
returns c = body-same
