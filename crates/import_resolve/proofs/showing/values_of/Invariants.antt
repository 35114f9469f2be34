use Rattle.std.proofs.Common.{◌≡◌, ◌++◌, drop}
use Rattle.std.specs.List.{flat_map}
use Rattle.import_resolve.specs.ImportLists.{exported_value}
use Rattle.import_resolve.proofs.showing.values_of.Given as goal

abbrev pub invariant-loop-export : goal.invariant-loop-export
invariant-loop-export l = l.names ++ flat_map exported_value (drop l.export-index l.exports) ≡ flat_map exported_value l.exports
