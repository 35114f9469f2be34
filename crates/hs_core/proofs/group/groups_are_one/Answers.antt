use Rattle.hs_core.proofs.OneGroupingLemmas.{groups-are-one}
use Rattle.hs_core.proofs.group.groups_are_one.Goals as goal

pub returns : goal.returns
returns c = groups-are-one
