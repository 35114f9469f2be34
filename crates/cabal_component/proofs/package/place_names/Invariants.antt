use Rattle.std.proofs.Common.{◌≡◌, ◌++◌, drop, map}
use Rattle.cabal_component.specs.Package.{place}
use Rattle.cabal_component.proofs.package.place_names.Given as goal

abbrev pub invariant-loop-name : goal.invariant-loop-name
invariant-loop-name l = l.places ++ map (place l.line) (drop l.name-index l.names) ≡ l.fn.places
    ++ map (place l.line) l.names
