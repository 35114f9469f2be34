use Rattle.std.proofs.Common.{◌≡◌, ◌++◌, length}
use Rattle.cabal_text.specs.Tokens.{tokens_of}
use Rattle.cabal_text.proofs.tokens.tokens_of.Given as goal

abbrev pub invariant-loop-token : goal.invariant-loop-token
invariant-loop-token l = l.tokens.items ++ tokens_of l.rest ≡ tokens_of l.text

abbrev pub decreases-loop-token : goal.decreases-loop-token
decreases-loop-token l = length l.rest
