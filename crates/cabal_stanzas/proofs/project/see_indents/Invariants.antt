use Rattle.std.proofs.Common.{◌≡◌, drop, nat_lt}
use Rattle.std.specs.List.{filter}
use Rattle.cabal_stanzas.proofs.project.see_indents.Given as goal

abbrev pub invariant-loop-line : goal.invariant-loop-line
invariant-loop-line l = filter (λ x. nat_lt x.indent l.first.indent) (drop l.line-index l.rest) ≡ filter
    (λ x. nat_lt x.indent l.first.indent) l.rest
