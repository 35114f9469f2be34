use Rattle.haskell_layout.proofs.MatchingLemmas as matching
use Rattle.haskell_layout.proofs.laws.braces_match.Goals as goal

pub returns : goal.returns
returns c = matching.braces_match
