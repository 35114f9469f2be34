use Rattle.type_resolve.proofs.ExactLemmas.{names_are_exact, types_are_exact}
use Rattle.type_resolve.proofs.laws.types_are_exact.Goals as goal

pub returns : goal.returns
returns c = record { names = names_are_exact; types = types_are_exact }
