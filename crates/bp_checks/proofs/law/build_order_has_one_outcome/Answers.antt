use Rattle.std.proofs.Common.{sym, ◌∙◌}
use Rattle.bp_checks.specs.BuildOrder.{Asks, IsAbsent}
use Rattle.bp_checks.proofs.law.build_order_has_one_outcome.Goals as goal
use Rattle.bp_checks.proofs.WalkLemmas.{IsExact-walk}

pub returns : goal.returns
returns c deps there target = IsExact-walk (λ e. e.name) (Asks deps) (IsAbsent there) (λ a xs ys p q. p
    ∙ sym q) (λ path e r q x y. x.1 ∙ sym y.1) _
