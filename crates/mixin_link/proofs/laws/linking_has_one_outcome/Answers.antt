use Rattle.mixin_link.proofs.OutcomeLemmas.{linking_has_one_outcome}
use Rattle.mixin_link.proofs.laws.linking_has_one_outcome.Goals as goal

pub returns : goal.returns
returns c = linking_has_one_outcome
