use Rattle.mixin_link.proofs.NextLemmas.{linkings_are_lawful}
use Rattle.mixin_link.proofs.laws.linkings_are_lawful.Goals as goal

pub returns : goal.returns
returns c = linkings_are_lawful
