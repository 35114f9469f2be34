use Rattle.std.proofs.Common.{◌≡◌, drop}
use Rattle.cabal_component.specs.Given.{value_at}
use Rattle.cabal_component.proofs.given.value_at.Given as goal

abbrev pub invariant-loop-given : goal.invariant-loop-given
invariant-loop-given l = value_at l.field (drop l.given-index l.givens) ≡ value_at l.field l.givens
