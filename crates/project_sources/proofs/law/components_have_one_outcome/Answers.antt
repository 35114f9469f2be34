use Rattle.project_sources.proofs.OnceLemmas.{IsExact-told_apart}
use Rattle.project_sources.proofs.law.components_have_one_outcome.Goals as goal

pub returns : goal.returns
returns c l cs = IsExact-told_apart l cs
