use Rattle.std.proofs.Common.{sym, ◌∙◌}
use Rattle.bp_checks.specs.BuildOrder.{Asks, IsAbsent}
use Rattle.bp_checks.proofs.ReachedLemmas.{Visits-distinct, walk-reached}
use Rattle.project_order.specs.Order.{build_order, deps_in, is_listed}
use Rattle.project_order.proofs.law.order_is_what_is_reached.Goals as goal

pub returns : goal.returns
unfolding build_order
returns c cs target order v = record {
  once = Visits-distinct (λ e. e.name) (Asks (deps_in cs)) (IsAbsent (is_listed cs)) _ _ _ _ v tt;
  reached = λ n. (walk-reached (λ e. e.name) (Asks (deps_in cs)) (IsAbsent (is_listed cs)) (λ a xs ys p q. p ∙ sym q)
      _ _ v n).0;
  all = λ n. (walk-reached (λ e. e.name) (Asks (deps_in cs)) (IsAbsent (is_listed cs)) (λ a xs ys p q. p ∙ sym q)
      _ _ v n).1;
}
