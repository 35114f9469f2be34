use Rattle.hs_core.proofs.TwiceLemmas.{ty-twice}
use Rattle.hs_core.proofs.laws.type_renaming_composes.Goals as goal

pub returns : goal.returns
returns c = ty-twice
