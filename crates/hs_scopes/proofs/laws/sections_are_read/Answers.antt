use Rattle.hs_scopes.proofs.ReadingLemmas.{sections_are_read}
use Rattle.hs_scopes.proofs.laws.sections_are_read.Goals as goal

pub returns : goal.returns
returns c = sections_are_read
