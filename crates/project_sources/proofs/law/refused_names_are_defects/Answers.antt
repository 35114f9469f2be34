use Rattle.project_sources.proofs.OnceLemmas.{IsWithin-told_apart}
use Rattle.project_sources.proofs.law.refused_names_are_defects.Goals as goal

pub returns : goal.returns
returns c l cs = IsWithin-told_apart l cs
