use Rattle.std.proofs.Common.{◌≡◌, drop}
use Rattle.std.proofs.Common.{map}
use Rattle.cabal_text.specs.Lines.{deeper_than}
use Rattle.cabal_text.specs.Least.{least_of, sooner}
use Rattle.cabal_component.proofs.package.deep_line.Given as goal

abbrev pub invariant-loop-line : goal.invariant-loop-line
invariant-loop-line l = sooner l.least (least_of (map (λ x. x.number) (deeper_than 0 (drop l.line-index l.lines)))) ≡
    least_of (map (λ x. x.number) (deeper_than 0 l.lines))
