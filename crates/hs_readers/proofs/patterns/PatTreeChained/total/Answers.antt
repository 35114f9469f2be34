use Rattle.std.proofs.Common.{arith}
use Rattle.hs_trees.proofs.PatternLayerLemmas.{pat_deep}
use Rattle.hs_readers.proofs.patterns.PatTreeChained.total.Goals as goal

pub returns-clause-exact : goal.returns-clause-exact
returns-clause-exact c = λ limit h xs count deep. omega (arith, count, deep, pat_deep (record { first = h; rest = xs }))
