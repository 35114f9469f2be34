use Rattle.std.proofs.Common.{◌≡◌, ◌++◌, drop}
use Rattle.std.specs.List.{flat_map}
use Rattle.import_resolve.specs.ImportLists.{whole_type}
use Rattle.import_resolve.proofs.listing.wholes_of.Given as goal

abbrev pub invariant-loop-item : goal.invariant-loop-item
invariant-loop-item l = l.names ++ flat_map whole_type (drop l.item-index l.items) ≡ flat_map whole_type l.items
