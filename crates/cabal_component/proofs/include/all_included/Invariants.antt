use Rattle.std.proofs.Common.{◌≡◌, ◌++◌, drop}
use Rattle.std.specs.List.{flat_map}
use Rattle.cabal_component.specs.Includes.{included}
use Rattle.cabal_component.specs.Tables.{entries_at}
use Rattle.cabal_component.proofs.include.all_included.Given as goal

abbrev pub invariant-loop-dep : goal.invariant-loop-dep
invariant-loop-dep l =
    l.all ++ flat_map (included (entries_at l.table)) (drop l.dep-index l.deps) ≡ flat_map
    (included (entries_at l.table)) l.deps
