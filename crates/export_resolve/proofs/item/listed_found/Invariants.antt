use Rattle.std.proofs.Common.{◌≡◌, drop}
use Rattle.export_resolve.specs.Seen.{seen_at}
use Rattle.export_resolve.specs.Found.{all_found, con_found, together}
use Rattle.export_resolve.proofs.item.listed_found.Given as goal

abbrev pub invariant-loop-sub : goal.invariant-loop-sub
invariant-loop-sub l =
    together l.things (all_found (con_found (seen_at l.table) l.entity) (drop l.sub-index l.subs))
    ≡ all_found (con_found (seen_at l.table) l.entity) l.subs
