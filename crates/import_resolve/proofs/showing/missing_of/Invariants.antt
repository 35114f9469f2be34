use Rattle.std.proofs.Common.{◌≡◌, drop}
use Rattle.import_resolve.specs.ImportLists.{first_some, missing_in}
use Rattle.import_resolve.specs.Filters.{showing_at}
use Rattle.import_resolve.proofs.showing.missing_of.Given as goal

abbrev pub invariant-loop-item : goal.invariant-loop-item
invariant-loop-item l =
    first_some (missing_in (showing_at l.table)) (drop l.item-index l.items)
    ≡ first_some (missing_in (showing_at l.table)) l.items
