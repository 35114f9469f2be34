use Rattle.hs_core_laws.proofs.NameExamples.{maybe_has_kind}
use Rattle.hs_core_laws.proofs.programs.kind_of_a_type.Goals as goal

pub returns : goal.returns
returns c = maybe_has_kind
