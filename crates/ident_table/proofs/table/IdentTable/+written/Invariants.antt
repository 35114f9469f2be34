use Rattle.std.proofs.Common.{◌≡◌, ◌+◌, ◌*◌, take}
use Rattle.ident_table.specs.Numbers.{fills_of}
use Rattle.ident_table.proofs.table.IdentTable.+written.Given as goal

abbrev pub decreases-fills_below : goal.decreases-fills_below
decreases-fills_below l = 2 * l.limit

abbrev pub decreases-ident_at : goal.decreases-ident_at
decreases-ident_at l = 2 * l.number + 1

abbrev pub invariant-fills_below-loop-fill : goal.invariant-fills_below-loop-fill
invariant-fills_below-loop-fill l = l.written ≡ fills_of l.self (take l.fill-index l.fills)
