use Rattle.std.specs.Prelude.{map}
use Rattle.kind_env.specs.Listings.{Adds, value_of_special, nth_value, firsts}
use Rattle.kind_env.proofs.special.add_special_values.Given as goal

abbrev pub invariant-loop-index : goal.invariant-loop-index
invariant-loop-index l = Adds (map value_of_special (firsts nth_value l.index)) l.fn.names l.names
