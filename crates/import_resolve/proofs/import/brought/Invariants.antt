use Rattle.std.proofs.Common.{◌≡◌, ◌++◌, drop}
use Rattle.import_resolve.specs.Filters.{filter_at}
use Rattle.import_resolve.specs.Scopes.{brought}
use Rattle.import_resolve.proofs.import.brought.Given as goal

abbrev pub invariant-loop-export : goal.invariant-loop-export
invariant-loop-export l =
    l.items ++ brought l.qualifier (filter_at l.filter) (drop l.export-index l.exports)
    ≡ brought l.qualifier (filter_at l.filter) l.exports
