use Rattle.flat_spelled.proofs.PatternLemmas.{patterns_spelled}
use Rattle.flat_spelled.proofs.laws.patterns_are_spelled.Goals as goal

pub returns : goal.returns
returns c = patterns_spelled
