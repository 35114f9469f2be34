-- A lemma of `ChainLemmas`.
use Rattle.hs_expressions.proofs.ChainLemmas.{holds_stop}
use Rattle.hs_expressions.proofs.chains.finished.Goals as goal

pub returns : goal.returns
returns c = λ limit lone ts holds ends. holds_stop limit lone ts _ _ _ _ _ _ holds.0 ends
