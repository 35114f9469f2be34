use Rattle.std.proofs.Common.{length}
use Rattle.hole_unify.proofs.EdgeLemmas.{module-fills}
use Rattle.hole_unify.proofs.reach.add_edges_of_node.Goals as goal

pub add_edges_of_fills-requires : goal.add_edges_of_fills-requires
add_edges_of_fills-requires c = module-fills c.args.node.now _ _ _ c.as_slice.result.now
    (length c.args.classes.now) c.in-Module.is c.as_slice.ensures c.requires
