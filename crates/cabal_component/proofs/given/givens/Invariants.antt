use Rattle.std.proofs.Common.{◌≡◌, ◌++◌, drop}
use Rattle.cabal_component.specs.Given.{givens}
use Rattle.cabal_component.proofs.given.givens.Given as goal

abbrev pub invariant-loop-field : goal.invariant-loop-field
invariant-loop-field l = l.found ++ givens l.kind (drop l.field-index l.fields) ≡ givens l.kind l.fields
