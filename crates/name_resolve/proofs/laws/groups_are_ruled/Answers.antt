use Rattle.name_resolve.proofs.ExampleLemmas.{groups_are_ruled}
use Rattle.name_resolve.proofs.laws.groups_are_ruled.Goals as goal

pub returns : goal.returns
returns c = groups_are_ruled
