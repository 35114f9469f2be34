use Rattle.cabal_lawful.proofs.WholeLemmas.{components_ok}
use Rattle.cabal_lawful.proofs.components_are_lawful.Goals as goal

pub returns : goal.returns
returns c = λ file ls r. components_ok file ls r
