use Rattle.std.proofs.Common.{take, ap, sym, ◌∙◌, ◌+◌, ◌++◌, ◌∷◌, []}
use Rattle.std.proofs.lemmas.List.{take_more}
use Rattle.type_unify.proofs.TakingLemmas.{Reading-more, IsLonger-trans}
use Rattle.type_unify.proofs.take_in.take_in.Goals as goal

pub loop-node-preserved : goal.loop-node-preserved
loop-node-preserved c = record {
  reading = Reading-more c.args.cells.now.items c.loop-node.cells.items c.take_node.new.cells.items
      (take c.loop-node.node-index c.args.nodes.now)
      (take (c.loop-node.node-index + 1) c.args.nodes.now) c.node-item.result c.loop-node.stack.items
      c.take_node.new.stack.items c.loop-node.invariant.reading c.in_ok-take_node.ensures.ok
      (take_more c.args.nodes.now c.loop-node.node-index c.node-item.result c.loop-node-test.true
      ∙ ap (λ z. take c.loop-node.node-index c.args.nodes.now ++ z ∷ []) (sym c.node-item.is));
  longer = IsLonger-trans c.args.cells.now.items c.loop-node.cells.items c.take_node.new.cells.items
      c.loop-node.invariant.longer c.in_ok-take_node.ensures.longer;
}
