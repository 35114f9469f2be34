use Rattle.std.proofs.Common.{◌≡◌, ◌+◌, drop}
use Rattle.hs_core.specs.Matching.{number_in}
use Rattle.kind_module.proofs.scheme.number_in.Given as goal

abbrev pub invariant-loop-place : goal.invariant-loop-place
invariant-loop-place l = l.place + number_in (drop l.place l.met) l.index ≡ number_in l.met l.index
