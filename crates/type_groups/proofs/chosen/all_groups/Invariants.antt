use Rattle.std.proofs.Common.{◌≡◌, take}
use Rattle.std.specs.Prelude.{map}
use Rattle.hs_core.specs.WellTyped.{chosen}
use Rattle.type_groups.specs.Uses.{group_decls}
use Rattle.type_groups.proofs.chosen.all_groups.Given as goal

abbrev pub invariant-loop-index : goal.invariant-loop-index
invariant-loop-index l = map group_decls l.all ≡ map (λ g. chosen l.decls g.members) (take l.index l.members)
