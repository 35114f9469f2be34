use Rattle.std.proofs.Common.{◌≡◌, ◌++◌, length}
use Rattle.std.specs.Prelude.{option_map}
use Rattle.cabal_text.specs.declared.tokens.Brackets.TheVariants.{Curly}
use Rattle.cabal_text.specs.Tokens.{items_at, each_read}
use Rattle.cabal_stanzas.specs.Values.{ranged_name, ranged_names}
use Rattle.cabal_stanzas.proofs.values.ranged_names.Given as goal

abbrev pub invariant-loop-rest : goal.invariant-loop-rest
invariant-loop-rest l = option_map (λ more. l.names ++ more)
    (each_read ranged_name (items_at Curly 0 l.rest)) ≡ ranged_names l.value

abbrev pub decreases-loop-rest : goal.decreases-loop-rest
decreases-loop-rest l = length l.rest
