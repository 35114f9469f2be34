use Rattle.std.proofs.Common.{◌≡◌, ◌++◌, drop}
use Rattle.std.specs.List.{flat_map}
use Rattle.cabal_component.specs.Package.{placed_in, placed}
use Rattle.cabal_component.proofs.package.placed.Given as goal

abbrev pub invariant-loop-given : goal.invariant-loop-given
invariant-loop-given l = l.places ++ flat_map placed_in (drop l.given-index l.givens) ≡ placed l.fn.kind l.fn.head
    l.givens
