use Rattle.project_sources.proofs.SourceLemmas.{IsExact-gathered, IsWithin-gathered}
use Rattle.project_sources.proofs.law.inputs_have_one_outcome.Goals as goal

pub returns-clause-one : goal.returns-clause-one
returns-clause-one c l files seen component = IsExact-gathered l files seen component

pub returns-clause-within : goal.returns-clause-within
returns-clause-within c l files seen other component = IsWithin-gathered l files seen other component
