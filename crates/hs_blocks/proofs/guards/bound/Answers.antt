-- A lemma of `GuardLemmas`.
use Rattle.hs_block_forms.proofs.GuardLemmas.{guard_bind}
use Rattle.hs_blocks.proofs.guards.bound.Goals as goal

pub returns : goal.returns
returns c = λ limit ts took. guard_bind limit ts _ _ _ _ took
