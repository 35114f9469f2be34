use Rattle.project_sources.proofs.FileLemmas.{IsExact-whole_file}
use Rattle.project_sources.proofs.law.files_have_one_outcome.Goals as goal

pub returns : goal.returns
returns c l files seen component at path = IsExact-whole_file l files seen component at path
