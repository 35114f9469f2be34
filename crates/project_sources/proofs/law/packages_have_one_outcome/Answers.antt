use Rattle.project_sources.proofs.PackageLemmas.{IsExact-packages_at, IsWithin-packages_at}
use Rattle.project_sources.proofs.law.packages_have_one_outcome.Goals as goal

pub returns-clause-one : goal.returns-clause-one
returns-clause-one c l files seen paths = IsExact-packages_at l files seen paths

pub returns-clause-within : goal.returns-clause-within
returns-clause-within c l files seen paths = IsWithin-packages_at l files seen paths
