use Rattle.std.proofs.Common.{take}
use Rattle.std.specs.Prelude.{flat_map}
use Rattle.kind_env.specs.Listings.{noted_in_con}
use Rattle.kind_env.specs.Listings.{Adds}
use Rattle.kind_env.proofs.entities.add_noted_in_cons.Given as goal

abbrev pub invariant-loop-index : goal.invariant-loop-index
invariant-loop-index l = Adds (flat_map noted_in_con (take l.index l.cons)) l.fn.names l.names
