use Rattle.std.proofs.Common.{◌≡◌, take, map}
use Rattle.hs_core.proofs.base.con_names.Given as goal

abbrev pub invariant-loop-each : goal.invariant-loop-each
invariant-loop-each l = l.names ≡ map (λ k. k.occ) (take l.each-index l.cons)
