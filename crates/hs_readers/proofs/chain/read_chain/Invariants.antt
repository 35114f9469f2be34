use Rattle.std.proofs.Common.{length}
use Rattle.hs_forms.proofs.StateLemmas.{State}
use Rattle.hs_readers.proofs.chain.read_chain.Given as goal

abbrev pub invariant-items : goal.invariant-items
invariant-items g l = State (g.C.Chained.chain l.limit) l.tokens l.first l.more l.rest l.deep

abbrev pub decreases-items : goal.decreases-items
decreases-items g l = length l.rest
