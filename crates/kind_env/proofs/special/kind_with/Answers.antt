use Rattle.hs_core.specs.Types.{kind_term}
use Rattle.kind_env.proofs.ListLemmas.{kind_next}
use Rattle.kind_env.proofs.special.kind_with.Goals as goal

pub loop-index-preserved : goal.loop-index-preserved
loop-index-preserved c =
    kind_next _ (kind_term c.loop-index.kind) c.loop-index._index c.in_ok-kind.ensures c.loop-index.invariant
