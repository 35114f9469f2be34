use Rattle.std.proofs.Common.{sym, ◌∙◌}
use Rattle.haskell_layout.proofs.ContextLemmas.{last_reach}
use Rattle.haskell_layout.proofs.stack.Stack.reach.Goals as goal

pub returns : goal.returns
returns c = last_reach _ _ _ _ (sym c.as_slice.ensures ∙ c.in-Some.ensures.cases.0) c.self.invariant c.self.view_is
