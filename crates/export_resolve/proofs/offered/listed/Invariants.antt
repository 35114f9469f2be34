use Rattle.std.proofs.Common.{◌≡◌, drop}
use Rattle.export_resolve.specs.Seen.{seen_at}
use Rattle.export_resolve.specs.Found.{all_found, export_found, together}
use Rattle.export_resolve.proofs.offered.listed.Given as goal

abbrev pub invariant-loop-export : goal.invariant-loop-export
invariant-loop-export l =
    together l.things (all_found (export_found (seen_at l.table) l.items) (drop l.export-index l.exports))
    ≡ all_found (export_found (seen_at l.table) l.items) l.exports
