use Rattle.std.proofs.Common.{◌≡◌, take}
use Rattle.bp_base.proofs.ident.+same.Given as goal

abbrev pub invariant-same_fills-loop-i : goal.invariant-same_fills-loop-i
invariant-same_fills-loop-i l = take l.i l.a ≡ take l.i l.b
