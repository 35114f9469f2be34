use Rattle.project_sources.proofs.WholeLemmas.{IsExact-project_at, IsWithin-project_at}
use Rattle.project_sources.proofs.law.projects_have_one_outcome.Goals as goal

pub returns-clause-one : goal.returns-clause-one
returns-clause-one c l files = IsExact-project_at l files

pub returns-clause-within : goal.returns-clause-within
returns-clause-within c l files = IsWithin-project_at l files
