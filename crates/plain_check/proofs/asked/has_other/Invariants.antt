use Rattle.std.proofs.Common.{◌≡◌, drop}
use Rattle.std.specs.List.{list_any}
use Rattle.plain_check.specs.Asked.{is_other}
use Rattle.plain_check.proofs.asked.has_other.Given as goal

abbrev pub invariant-loop-name : goal.invariant-loop-name
invariant-loop-name l =
    list_any (is_other l.component) (drop l.name-index l.names) ≡ list_any (is_other l.component) l.names
