use Rattle.mixin_link.proofs.PrincipalLemmas.{answers_are_principal}
use Rattle.mixin_link.proofs.laws.answers_are_principal.Goals as goal

pub returns : goal.returns
returns c = answers_are_principal
