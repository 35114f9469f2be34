use Rattle.mixin_link.proofs.NameLemmas.{names_are_ordered}
use Rattle.mixin_link.proofs.laws.names_are_ordered.Goals as goal

pub returns : goal.returns
returns c = names_are_ordered
