use Rattle.std.proofs.Common.{◌≡◌, drop, None}
use Rattle.std.specs.Option.{option_copied}
use Rattle.export_resolve.specs.Found.{found_in}
use Rattle.export_resolve.proofs.seen.found_in.Given as goal

abbrev pub invariant-loop-item : goal.invariant-loop-item
invariant-loop-item l =
    found_in l.space l.qualifier (option_copied l.found) (drop l.item-index l.items)
    ≡ found_in l.space l.qualifier None l.items
