use Rattle.std.proofs.Common.{◌≡◌, ◌++◌, List, ℕ, drop}
use Rattle.std.specs.List.{flat_map}
use Rattle.import_resolve.specs.ImportLists.{listed_cons}
use Rattle.import_resolve.specs.Tables.{names_at}
use Rattle.import_resolve.proofs.listing.cons_of.Given as goal

abbrev pub invariant-loop-item : goal.invariant-loop-item
invariant-loop-item l =
    (q : List ℕ) → names_at l.table q ++ flat_map (listed_cons q) (drop l.item-index l.items) ≡ flat_map (listed_cons q) l.items
