use Rattle.std.proofs.Common.{◌≡◌, ◌++◌, drop}
use Rattle.std.specs.List.{flat_map}
use Rattle.mixin_names.specs.Names.{brought}
use Rattle.mixin_names.specs.Tables.{provisions_at}
use Rattle.mixin_names.proofs.provision.brought_from.Given as goal

abbrev pub invariant-loop-item : goal.invariant-loop-item
invariant-loop-item l =
    l.found ++ flat_map (brought (provisions_at l.table)) (drop l.item-index l.items) ≡ flat_map
    (brought (provisions_at l.table)) l.items
