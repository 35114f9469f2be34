use Rattle.std.specs.Prelude.{map}
use Rattle.kind_env.specs.Listings.{Adds, type_of_special, nth_type, firsts}
use Rattle.kind_env.proofs.special.add_special_types.Given as goal

abbrev pub invariant-loop-index : goal.invariant-loop-index
invariant-loop-index l = Adds (map type_of_special (firsts nth_type l.index)) l.fn.names l.names
