use Rattle.std.proofs.Common.{◌≡◌, ◌∷◌, replicate}
use Rattle.bp_base.proofs.special.tuple_text.Given as goal

abbrev pub invariant-loop-i : goal.invariant-loop-i
invariant-loop-i l = l.text.items ≡ 40 ∷ replicate l.i 44
