use Rattle.type_expand.specs.Expanding.{stacked_types}
use Rattle.type_expand.proofs.TypeLemmas.{taken-more}
use Rattle.type_expand.proofs.apply.take_args.Goals as goal

pub loop-index-preserved : goal.loop-index-preserved
loop-index-preserved c =
    taken-more (stacked_types c.args.args.now) c.loop-index._index c.loop-index.front c.loop-index.args
    c.move_top.new.front c.move_top.new.args c.in_ok-move_top.ensures c.loop-index.invariant
