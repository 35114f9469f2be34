use Rattle.hs_core.proofs.TreesTwiceLemmas.{body-twice}
use Rattle.hs_core.proofs.laws.body_renaming_composes.Goals as goal

pub returns : goal.returns
returns c = body-twice
