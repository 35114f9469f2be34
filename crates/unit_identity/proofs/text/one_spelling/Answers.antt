use Rattle.unit_identity.proofs.ExactLemmas.{one-spelling}
use Rattle.unit_identity.proofs.text.one_spelling.Goals as goal

pub returns : goal.returns
returns c = one-spelling
