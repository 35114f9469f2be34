use Rattle.std.proofs.Common.{◌≡◌, ◌++◌, List, ℕ, drop}
use Rattle.std.specs.List.{flat_map}
use Rattle.import_resolve.specs.ImportLists.{exported_cons}
use Rattle.import_resolve.specs.Tables.{names_at}
use Rattle.import_resolve.proofs.showing.cons_of.Given as goal

abbrev pub invariant-loop-export : goal.invariant-loop-export
invariant-loop-export l =
    (q : List ℕ) → names_at l.table q ++ flat_map (exported_cons q) (drop l.export-index l.exports) ≡ flat_map (exported_cons q) l.exports
