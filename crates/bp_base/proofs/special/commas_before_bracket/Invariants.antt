use Rattle.std.proofs.Common.{◌≡◌, ◌++◌, replicate, length}
use Rattle.bp_base.proofs.special.commas_before_bracket.Given as goal

abbrev pub invariant-commas : goal.invariant-commas
invariant-commas l = l.fn.text ≡ replicate l.commas 44 ++ l.rest

abbrev pub decreases-commas : goal.decreases-commas
decreases-commas l = length l.rest
