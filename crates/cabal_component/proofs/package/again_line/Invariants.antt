use Rattle.std.proofs.Common.{◌≡◌, length}
use Rattle.cabal_text.specs.Least.{least_of}
use Rattle.cabal_component.specs.Package.{given_again}
use Rattle.cabal_component.proofs.package.again_line.Given as goal

abbrev pub invariant-loop-rest : goal.invariant-loop-rest
invariant-loop-rest l = least_of (given_again l.rest l.field) ≡ least_of (given_again l.givens l.field)

abbrev pub decreases-loop-rest : goal.decreases-loop-rest
decreases-loop-rest l = length l.rest
