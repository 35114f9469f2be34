use Rattle.flat_laws.proofs.LawfulLemmas.{names_lawful}
use Rattle.flat_laws.proofs.laws.names_are_lawful.Goals as goal

pub returns : goal.returns
returns c = names_lawful
