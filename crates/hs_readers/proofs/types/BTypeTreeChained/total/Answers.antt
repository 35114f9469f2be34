use Rattle.std.proofs.Common.{sym, ◌∙◌}
use Rattle.hs_trees.proofs.TypeLayerLemmas.{btype_deep}
use Rattle.hs_readers.proofs.types.BTypeTreeChained.total.Goals as goal

pub returns-clause-exact : goal.returns-clause-exact
returns-clause-exact c = λ limit h xs count deep. deep ∙ sym (btype_deep (record { first = h; rest = xs }))
