use Rattle.std.proofs.Common.{◌≡◌, ◌++◌, List, ℕ, drop}
use Rattle.cabal_component.specs.Includes.{entries_for}
use Rattle.cabal_component.specs.Tables.{entries_at}
use Rattle.cabal_component.proofs.include.entries_by_dep.Given as goal

abbrev pub invariant-loop-mixin : goal.invariant-loop-mixin
invariant-loop-mixin l =
    (dep : List ℕ) → entries_at l.table dep ++ entries_for dep (drop l.mixin-index l.mixins) ≡ entries_for dep l.mixins
