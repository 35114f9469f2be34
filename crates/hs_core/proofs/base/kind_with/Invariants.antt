use Rattle.std.proofs.Common.{◌≡◌}
use Rattle.hs_core.specs.Base.{kind_with}
use Rattle.hs_core.proofs.base.kind_with.Given as goal

abbrev pub invariant-loop : goal.invariant-loop
invariant-loop l = l.kind ≡ kind_with l.counter
