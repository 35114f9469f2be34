use Rattle.hs_core_laws.proofs.ModuleExamples.{depth_is_measured}
use Rattle.hs_core_laws.proofs.programs.depths.Goals as goal

pub returns : goal.returns
returns c = depth_is_measured
