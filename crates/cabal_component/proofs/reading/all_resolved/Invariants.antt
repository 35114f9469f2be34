use Rattle.std.proofs.Common.{◌≡◌, ◌++◌, drop, map}
use Rattle.std.specs.HashSet.{contains}
use Rattle.std.specs.Str.{bytes_eq}
use Rattle.cabal_component.specs.Reading.{resolved}
use Rattle.cabal_component.proofs.reading.all_resolved.Given as goal

abbrev pub invariant-loop-name : goal.invariant-loop-name
invariant-loop-name l = l.all ++ map (resolved l.owner (contains bytes_eq l.own)) (drop l.name-index l.names) ≡ map
    (resolved l.owner (contains bytes_eq l.own)) l.names
