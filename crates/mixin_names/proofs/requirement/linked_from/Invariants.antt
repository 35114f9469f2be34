use Rattle.std.proofs.Common.{◌≡◌, ◌++◌, drop}
use Rattle.mixin_names.specs.Names.{all_linked}
use Rattle.mixin_names.specs.Tables.{name_at}
use Rattle.mixin_names.proofs.requirement.linked_from.Given as goal

abbrev pub invariant-loop-hole : goal.invariant-loop-hole
invariant-loop-hole l = l.all ++ all_linked (name_at l.table) (drop l.hole-index l.holes) ≡ all_linked
    (name_at l.table) l.holes
