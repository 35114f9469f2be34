use Rattle.type_resolve.proofs.LayerLemmas.{in-Parts}
use Rattle.type_resolve.proofs.types.+types.Goals as goal

pub atype_found-returns-in_ok-first-in-Parts : goal.atype_found-returns-in_ok-first-in-Parts
atype_found-returns-in_ok-first-in-Parts t c =
    in-Parts _ _ c.args.tree.now _ _ _ _ _ c.tuple_found.result c.in-Parts.is c.get.ensures c.as_slice.ensures
    c.in_ok-first-in-Parts.ensures c.tuple_found.ensures
