use Rattle.std.proofs.Common.{sym, ◌∙◌}
use Rattle.bp_checks.specs.BuildOrder.{Asks, IsAbsent}
use Rattle.bp_checks.proofs.law.build_order_is_what_is_reached.Goals as goal
use Rattle.bp_checks.proofs.ReachedLemmas.{Visits-distinct, walk-reached}

pub returns : goal.returns
returns c deps there target order v = record {
  once = Visits-distinct (λ e. e.name) (Asks deps) (IsAbsent there) _ _ _ _ v tt;
  reached = λ n. walk-reached (λ e. e.name) (Asks deps) (IsAbsent there) (λ a xs ys p q. p ∙ sym q) _ _ v n;
}
