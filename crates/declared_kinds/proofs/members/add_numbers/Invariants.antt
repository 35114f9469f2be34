use Rattle.std.proofs.Common.{◌≡◌, ◌++◌, take}
use Rattle.declared_kinds.proofs.members.add_numbers.Given as goal

abbrev pub invariant-loop-index : goal.invariant-loop-index
invariant-loop-index l = l.all ≡ l.fn.all ++ take l.index l.numbers
