use Rattle.project_sources.proofs.FileLemmas.{IsWithin-whole_file}
use Rattle.project_sources.proofs.law.refused_files_are_defects.Goals as goal

pub returns : goal.returns
returns c l files seen component at path = IsWithin-whole_file l files seen component at path
