use Rattle.hole_unify.proofs.SearchingLemmas.{item-at}
use Rattle.hole_unify.proofs.reach.ends_at.Goals as goal

pub returns : goal.returns
returns c = item-at (λ v. v.items) c.args.ends.now c.args.class c.index-ends-class.result c.as_slice.result.now
    c.requires c.index-ends-class.is c.as_slice.ensures.value
