use Rattle.haskell_layout.proofs.StayingLemmas as staying
use Rattle.haskell_layout.proofs.laws.braces_stay.Goals as goal

pub returns : goal.returns
returns c = staying.braces_stay
