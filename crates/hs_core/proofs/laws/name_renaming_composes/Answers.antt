use Rattle.hs_core.proofs.TwiceLemmas.{name-twice}
use Rattle.hs_core.proofs.laws.name_renaming_composes.Goals as goal

pub returns : goal.returns
returns c = name-twice
