use Rattle.std.proofs.Common.{take}
use Rattle.std.specs.Prelude.{map}
use Rattle.hs_core.specs.Globals.{constructor_of}
use Rattle.kind_env.specs.Listings.{Adds}
use Rattle.kind_env.proofs.entities.add_cons.Given as goal

abbrev pub invariant-loop-index : goal.invariant-loop-index
invariant-loop-index l = Adds (map (constructor_of l.name l.params) (take l.index l.cons)) l.fn.names l.names
