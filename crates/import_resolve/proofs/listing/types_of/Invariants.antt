use Rattle.std.proofs.Common.{◌≡◌, ◌++◌, drop}
use Rattle.std.specs.List.{flat_map}
use Rattle.import_resolve.specs.ImportLists.{listed_type}
use Rattle.import_resolve.proofs.listing.types_of.Given as goal

abbrev pub invariant-loop-item : goal.invariant-loop-item
invariant-loop-item l = l.names ++ flat_map listed_type (drop l.item-index l.items) ≡ flat_map listed_type l.items
