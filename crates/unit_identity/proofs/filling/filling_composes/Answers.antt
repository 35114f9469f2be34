use Rattle.unit_identity.proofs.FillLemmas.{filled-filled}
use Rattle.unit_identity.proofs.filling.filling_composes.Goals as goal

pub returns : goal.returns
returns c = filled-filled
