use Rattle.haskell_layout.proofs.StandingLemmas.{given_stand}
use Rattle.haskell_layout.proofs.laws.given_tokens_stand.Goals as goal

pub returns : goal.returns
returns c = given_stand
