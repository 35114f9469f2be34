use Rattle.std.proofs.Common.{◌≡◌, drop}
use Rattle.std.specs.List.{list_any}
use Rattle.export_resolve.specs.Found.{same_plain}
use Rattle.export_resolve.proofs.meaning.has_plain.Given as goal

abbrev pub invariant-loop-other : goal.invariant-loop-other
invariant-loop-other l =
    list_any (same_plain l.item) (drop l.other-index l.others) ≡ list_any (same_plain l.item) l.others
