use Rattle.haskell_layout.proofs.ContextLemmas.{more_kept, more_items}
use Rattle.haskell_layout.proofs.stack.Stack.push.Goals as goal

pub invariant_of-self-2 : goal.invariant_of-self-2
invariant_of-self-2 c =
    more_kept _ _ _ _ c.in_ok-push.ensures.ok c.self.view_is c.self.invariant
    (c.over-reach.ensures c.args.self.now c.reach.ensures)

pub returns : goal.returns
returns c = more_items _ _ _ _ c.in_ok-push.ensures.ok c.self.view_is
