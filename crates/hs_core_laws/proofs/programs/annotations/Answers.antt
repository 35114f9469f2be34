use Rattle.hs_core_laws.proofs.ModuleExamples.{annotation_is_typed}
use Rattle.hs_core_laws.proofs.programs.annotations.Goals as goal

pub returns : goal.returns
returns c = annotation_is_typed
