use Rattle.plain_check.proofs.ExactLemmas.{IsExact-asks_nothing}
use Rattle.plain_check.proofs.law.what_is_asked_has_one_outcome.Goals as goal

pub returns : goal.returns
returns c component content = IsExact-asks_nothing component content
