use Rattle.std.proofs.Common.{arith}
use Rattle.hs_trees.proofs.TypeLayerLemmas.{type_deep}
use Rattle.hs_readers.proofs.types.TypeTreeChained.total.Goals as goal

pub returns-clause-exact : goal.returns-clause-exact
returns-clause-exact c = λ limit h xs count deep. omega
    (arith, count, deep, type_deep (record { first = h; rest = xs }))
