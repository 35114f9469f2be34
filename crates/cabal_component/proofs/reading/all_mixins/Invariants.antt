use Rattle.std.proofs.Common.{◌≡◌, ◌++◌, drop, map}
use Rattle.std.specs.HashSet.{contains}
use Rattle.std.specs.Str.{bytes_eq}
use Rattle.cabal_component.specs.Reading.{resolved_mixin}
use Rattle.cabal_component.proofs.reading.all_mixins.Given as goal

abbrev pub invariant-loop-mixin : goal.invariant-loop-mixin
invariant-loop-mixin l = l.all ++ map (resolved_mixin l.owner (contains bytes_eq l.own))
    (drop l.mixin-index l.mixins) ≡ map (resolved_mixin l.owner (contains bytes_eq l.own)) l.mixins
