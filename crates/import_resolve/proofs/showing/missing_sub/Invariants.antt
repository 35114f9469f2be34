use Rattle.std.proofs.Common.{◌≡◌, drop}
use Rattle.import_resolve.specs.ImportLists.{first_some, missing_sub}
use Rattle.import_resolve.specs.Filters.{showing_at}
use Rattle.import_resolve.proofs.showing.missing_sub.Given as goal

abbrev pub invariant-loop-sub : goal.invariant-loop-sub
invariant-loop-sub l = first_some (missing_sub ((showing_at l.table).cons l.of)) (drop l.sub-index l.subs)
    ≡ first_some (missing_sub ((showing_at l.table).cons l.of)) l.subs
