use Rattle.haskell_layout.proofs.ContextLemmas.{last_item, rest_kept}
use Rattle.haskell_layout.proofs.stack.Stack.pop.Goals as goal

pub invariant_of-self-2 : goal.invariant_of-self-2
invariant_of-self-2 c = rest_kept _ _ _ c.args.self.now c.in-Some.ensures c.self.invariant

pub returns : goal.returns
returns c = last_item _ _ _ _ c.in-Some.ensures c.self.view_is
