-- A lemma of `ChainLemmas`.
use Rattle.hs_expressions.proofs.ChainLemmas.{holds_alone}
use Rattle.hs_expressions.proofs.chains.sectioned.Goals as goal

pub returns : goal.returns
returns c = λ limit lone ts holds shut alone.
    holds_alone limit lone ts _ _ _ _ _ _ holds.0 shut alone.0 _ _ alone.1 alone.2
