use Rattle.hs_core_laws.proofs.NameExamples.{first_export_counts, numbering_is_free}
use Rattle.hs_core_laws.proofs.programs.exports_that_match.Goals as goal

pub returns-clause-first : goal.returns-clause-first
returns-clause-first c = first_export_counts

pub returns-clause-numbering : goal.returns-clause-numbering
returns-clause-numbering c = numbering_is_free
