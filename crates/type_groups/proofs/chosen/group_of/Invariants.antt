use Rattle.std.proofs.Common.{◌≡◌, take}
use Rattle.hs_core.specs.WellTyped.{chosen}
use Rattle.type_groups.proofs.chosen.group_of.Given as goal

abbrev pub invariant-loop-index : goal.invariant-loop-index
invariant-loop-index l = l.all ≡ chosen l.decls (take l.index l.members)
