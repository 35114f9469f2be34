use Rattle.backpack_run.proofs.GivenLemmas.{IsWithin-built}
use Rattle.backpack_run.proofs.law.refusals_are_defects.Goals as goal

pub returns : goal.returns
returns c l files target = IsWithin-built l files target
