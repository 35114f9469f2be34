use Rattle.hole_unify.specs.Table.{nodes_of}
use Rattle.hole_unify.proofs.RankLemmas.{no-least-cycle}
use Rattle.hole_unify.proofs.reach.find_cycle.Goals as goal

pub returns-then-do_ranks_fall : goal.returns-then-do_ranks_fall
returns-then-do_ranks_fall c = no-least-cycle c.as_slice.result.now c.args.edges.now
    (c.do_ranks_fall.ensures c.if-do_ranks_fall.true) (nodes_of c.args.table.now c.args.classes.now)
