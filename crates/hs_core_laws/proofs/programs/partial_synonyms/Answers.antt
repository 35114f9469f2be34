use Rattle.hs_core_laws.proofs.NameExamples.{partial_synonyms_do_not_expand}
use Rattle.hs_core_laws.proofs.programs.partial_synonyms.Goals as goal

pub returns : goal.returns
returns c = partial_synonyms_do_not_expand
