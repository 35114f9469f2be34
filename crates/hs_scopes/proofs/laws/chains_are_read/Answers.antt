use Rattle.hs_scopes.proofs.ReadingLemmas.{chains_are_read}
use Rattle.hs_scopes.proofs.laws.chains_are_read.Goals as goal

pub returns : goal.returns
returns c = chains_are_read
