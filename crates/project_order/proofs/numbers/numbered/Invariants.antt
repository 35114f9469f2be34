use Rattle.std.proofs.Common.{◌≡◌, ◌+◌, List, ℕ, drop, unwrap_or}
use Rattle.std.specs.HashMap.{get}
use Rattle.std.specs.Str.{bytes_eq}
use Rattle.project_order.specs.Numbers.{number_in}
use Rattle.project_order.proofs.numbers.numbered.Given as goal

abbrev pub invariant-loop-i : goal.invariant-loop-i
invariant-loop-i l =
    (q : List ℕ) → unwrap_or (get bytes_eq l.table q) (l.i + number_in (drop l.i l.names) q) ≡ number_in l.names q
