use Rattle.std.proofs.Common.{sym, ◌∙◌}
use Rattle.bp_checks.proofs.WalkLemmas.{IsExact-walk}
use Rattle.graph_walk.specs.Graph.{Asks, IsAbsent}
use Rattle.graph_walk.proofs.law.walks_have_one_outcome.Goals as goal

pub returns : goal.returns
returns c nodes starts = IsExact-walk (λ e. e.to) (Asks nodes) (IsAbsent nodes) (λ a xs ys p q. p ∙ sym q)
    (λ path e r q x y. x.1 ∙ sym y.1) _
