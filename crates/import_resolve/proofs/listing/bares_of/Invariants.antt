use Rattle.std.proofs.Common.{◌≡◌, ◌++◌, drop}
use Rattle.std.specs.List.{flat_map}
use Rattle.import_resolve.specs.ImportLists.{bare_type}
use Rattle.import_resolve.proofs.listing.bares_of.Given as goal

abbrev pub invariant-loop-item : goal.invariant-loop-item
invariant-loop-item l = l.names ++ flat_map bare_type (drop l.item-index l.items) ≡ flat_map bare_type l.items
