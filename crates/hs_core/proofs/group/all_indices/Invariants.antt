use Rattle.std.proofs.Common.{◌≡◌}
use Rattle.hs_core.specs.Groups.{indices}
use Rattle.hs_core.proofs.group.all_indices.Given as goal

abbrev pub invariant-loop-index : goal.invariant-loop-index
invariant-loop-index l = l.all ≡ indices l.index
