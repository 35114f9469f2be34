use Rattle.std.proofs.Common.{◌≡◌, ◌++◌, drop}
use Rattle.import_resolve.specs.Filters.{filter_at}
use Rattle.import_resolve.specs.Scopes.{con_items}
use Rattle.import_resolve.proofs.import.con_items.Given as goal

abbrev pub invariant-loop-con : goal.invariant-loop-con
invariant-loop-con l =
    l.items ++ con_items l.qualifier (filter_at l.filter) l.export.entity l.export.occ (drop l.con-index l.export.cons)
    ≡ con_items l.qualifier (filter_at l.filter) l.export.entity l.export.occ l.export.cons
