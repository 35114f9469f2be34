use Rattle.std.proofs.Common.{length}
use Rattle.hs_core.specs.Walking.{IsGathering}
use Rattle.hs_core.proofs.group.gathered.Given as goal

abbrev pub invariant-order : goal.invariant-order
invariant-order l = IsGathering l.uses l.users.items l.fn.order l.order l.walked l.groups.items

abbrev pub decreases-order : goal.decreases-order
decreases-order l = length l.order
