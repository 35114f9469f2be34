use Rattle.std.proofs.Common.{◌≡◌, drop, nat_lt}
use Rattle.std.specs.List.{filter}
use Rattle.std.proofs.Common.{map}
use Rattle.cabal_text.specs.Least.{least_of, sooner}
use Rattle.cabal_component.proofs.package.shallow_line.Given as goal

abbrev pub invariant-loop-line : goal.invariant-loop-line
invariant-loop-line l = sooner l.least (least_of (map (λ x. x.number)
    (filter (λ x. nat_lt x.indent l.first.indent) (drop l.line-index l.rest)))) ≡ least_of
    (map (λ x. x.number) (filter (λ x. nat_lt x.indent l.first.indent) l.rest))
