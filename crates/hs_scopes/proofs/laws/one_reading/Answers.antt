use Rattle.hs_scopes.proofs.UniqueLemmas.{one}
use Rattle.hs_scopes.proofs.laws.one_reading.Goals as goal

pub returns : goal.returns
returns c = one
