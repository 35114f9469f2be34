use Rattle.std.proofs.Common.{ap}
use Rattle.hs_forms.specs.Reading.{begins}
use Rattle.hs_block_forms.specs.Blocks.{is_left_brace}
use Rattle.hs_bodies.proofs.modules.read_module.Goals as goal

pub read_bare-requires : goal.read_bare-requires
read_bare-requires c = ap (begins is_left_brace) c.in-Some.ensures
