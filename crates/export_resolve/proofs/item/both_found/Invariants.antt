use Rattle.std.proofs.Common.{◌≡◌, ◌++◌, drop}
use Rattle.export_resolve.specs.Seen.{seen_at}
use Rattle.export_resolve.specs.Found.{both_found}
use Rattle.export_resolve.proofs.item.both_found.Given as goal

abbrev pub invariant-loop-item : goal.invariant-loop-item
invariant-loop-item l =
    l.things ++ both_found (seen_at l.table) (drop l.item-index l.items) l.name
    ≡ both_found (seen_at l.table) l.items l.name
