-- The types that a choice writes, its guards first.
use Rattle.std.specs.Prelude.{List, ◌++◌, flat_map}
use Rattle.hs_core.specs.declared.tree.Written.{Written}
use Rattle.hs_core.specs.declared.tree.Choice.{Choice}
use Rattle.written_types.specs.WrittenTypes.{types_in_exp, types_in_guard}

abbrev pub types_in_choice : Choice → List Written
types_in_choice c = flat_map types_in_guard c.guards ++ types_in_exp c.exp
