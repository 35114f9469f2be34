use Rattle.project_sources.proofs.TextLemmas.{IsExact-package_files, IsExact-components_at}
use Rattle.project_sources.proofs.law.texts_have_one_outcome.Goals as goal

pub returns-clause-project : goal.returns-clause-project
returns-clause-project c content = IsExact-package_files content

pub returns-clause-package : goal.returns-clause-package
returns-clause-package c path content = IsExact-components_at path content
