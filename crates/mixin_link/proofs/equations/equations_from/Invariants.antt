use Rattle.std.proofs.Common.{◌≡◌, ◌++◌, drop}
use Rattle.std.specs.List.{flat_map}
use Rattle.mixin_link.specs.Tables.{equations_in}
use Rattle.mixin_link.proofs.equations.equations_from.Given as goal

abbrev pub invariant-loop-name : goal.invariant-loop-name
invariant-loop-name l =
    l.all ++ flat_map (equations_in l.table) (drop l.name-index l.names) ≡ flat_map (equations_in l.table) l.names
