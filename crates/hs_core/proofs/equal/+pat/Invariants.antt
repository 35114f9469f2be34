use Rattle.std.proofs.Common.{◌≡◌, take}
use Rattle.hs_core.proofs.equal.+pat.Given as goal

abbrev pub invariant-same_pats-loop-i : goal.invariant-same_pats-loop-i
invariant-same_pats-loop-i l = take l.i l.a ≡ take l.i l.b
