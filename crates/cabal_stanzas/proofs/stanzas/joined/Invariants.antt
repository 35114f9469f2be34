use Rattle.std.proofs.Common.{◌≡◌, ◌++◌, drop}
use Rattle.std.specs.List.{flat_map}
use Rattle.std.proofs.Common.{◌∷◌}
use Rattle.cabal_stanzas.specs.Stanzas.{joined}
use Rattle.cabal_stanzas.proofs.stanzas.joined.Given as goal

abbrev pub invariant-loop-line : goal.invariant-loop-line
invariant-loop-line l = l.text.items ++ flat_map (λ x. 10 ∷ x.text)
    (drop l.line-index l.deeper) ≡ joined l.value l.deeper
