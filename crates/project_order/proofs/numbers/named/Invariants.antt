use Rattle.std.proofs.Common.{◌≡◌, ◌++◌, drop, map}
use Rattle.project_order.specs.Numbers.{name_at}
use Rattle.project_order.proofs.numbers.named.Given as goal

abbrev pub invariant-loop-number : goal.invariant-loop-number
invariant-loop-number l =
    l.all ++ map (name_at l.names) (drop l.number-index l.numbers) ≡ map (name_at l.names) l.numbers
