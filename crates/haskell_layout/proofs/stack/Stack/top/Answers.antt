use Rattle.std.proofs.Common.{sym, ◌∙◌}
use Rattle.haskell_layout.proofs.ContextLemmas.{last_item}
use Rattle.haskell_layout.proofs.stack.Stack.top.Goals as goal

pub returns : goal.returns
returns c = (_, last_item _ _ _ _ (sym c.as_slice.ensures ∙ c.in-Some.ensures.cases.0) c.self.view_is)
