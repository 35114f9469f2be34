use Rattle.hs_trees.proofs.PatternHitLemmas.{bind_hits, follow_misses, no_bind}
use Rattle.haskell_parse.proofs.parse_pats.no_bind.Goals as goal

pub returns-clause-hit : goal.returns-clause-hit
returns-clause-hit c = λ pattern more. bind_hits pattern more

pub returns-clause-miss : goal.returns-clause-miss
returns-clause-miss c = λ tokens follows. follow_misses tokens follows

pub returns-clause-past : goal.returns-clause-past
returns-clause-past c = λ tokens pattern more miss e. no_bind tokens pattern more miss e
