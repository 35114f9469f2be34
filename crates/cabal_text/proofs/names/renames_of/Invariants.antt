use Rattle.std.proofs.Common.{◌≡◌, ◌++◌, length}
use Rattle.cabal_text.specs.declared.tokens.Brackets.TheVariants.{Round}
use Rattle.cabal_text.specs.Tokens.{items_at, each_read}
use Rattle.cabal_text.specs.Names.{rename_of, renames_of}
use Rattle.std.specs.Prelude.{option_map}
use Rattle.cabal_text.proofs.names.renames_of.Given as goal

abbrev pub invariant-loop-rest : goal.invariant-loop-rest
invariant-loop-rest l = option_map (λ more. l.renames ++ more)
    (each_read rename_of (items_at Round 0 l.rest)) ≡ renames_of l.tokens

abbrev pub decreases-loop-rest : goal.decreases-loop-rest
decreases-loop-rest l = length l.rest
