use Rattle.std.proofs.Common.{◌≡◌, drop}
use Rattle.std.specs.List.{flat_map}
use Rattle.cabal_text.specs.Least.{least_of, sooner}
use Rattle.cabal_component.specs.Package.{given_again}
use Rattle.cabal_component.proofs.package.again_in.Given as goal

abbrev pub invariant-loop-field : goal.invariant-loop-field
invariant-loop-field l = sooner l.least (least_of (flat_map (given_again l.givens) (drop l.field-index l.fields))) ≡
    least_of (flat_map (given_again l.givens) l.fields)
