use Rattle.std.proofs.Common.{take}
use Rattle.std.specs.Prelude.{flat_map}
use Rattle.hs_core.specs.Globals.{noted_by}
use Rattle.kind_env.specs.Listings.{Adds}
use Rattle.kind_env.proofs.entities.add_all_noted.Given as goal

abbrev pub invariant-loop-index : goal.invariant-loop-index
invariant-loop-index l = Adds (flat_map noted_by (take l.index l.entities)) l.fn.names l.names
