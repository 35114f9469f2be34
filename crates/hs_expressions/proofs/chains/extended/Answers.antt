-- A lemma of `ChainLemmas`.
use Rattle.hs_expressions.proofs.ChainLemmas.{holds_step}
use Rattle.hs_expressions.proofs.chains.extended.Goals as goal

pub returns : goal.returns
returns c = λ limit lone ts holds shut took.
    rw (c.in_ok-push.ensures.ok, c.max.ensures)
    (holds_step limit ts _ _ _ _ _ _ holds.0 shut _ _ _ _ _ _ took c.signs.ensures.value c.ends_open.ensures)
