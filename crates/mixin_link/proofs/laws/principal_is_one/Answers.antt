use Rattle.mixin_link.proofs.PrincipalLemmas.{principal_is_one}
use Rattle.mixin_link.proofs.laws.principal_is_one.Goals as goal

pub returns : goal.returns
returns c = principal_is_one
