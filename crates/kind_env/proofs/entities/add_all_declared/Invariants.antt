use Rattle.std.proofs.Common.{take}
use Rattle.std.specs.Prelude.{flat_map}
use Rattle.hs_core.specs.Globals.{declared_by}
use Rattle.kind_env.specs.Listings.{Adds}
use Rattle.kind_env.proofs.entities.add_all_declared.Given as goal

abbrev pub invariant-loop-index : goal.invariant-loop-index
invariant-loop-index l = Adds (flat_map declared_by (take l.index l.entities)) l.fn.names l.names
