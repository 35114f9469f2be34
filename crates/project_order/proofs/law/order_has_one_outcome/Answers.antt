use Rattle.project_order.proofs.OrderLemmas.{IsExact-build_order}
use Rattle.project_order.proofs.law.order_has_one_outcome.Goals as goal

pub returns : goal.returns
returns c cs target = IsExact-build_order cs target
