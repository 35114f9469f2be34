use Rattle.hs_core.specs.Types.{type_term}
use Rattle.type_expand.proofs.SizeLemmas.{measure}
use Rattle.type_expand.proofs.replace.+expanded.Given as goal

abbrev pub decreases-expanded : goal.decreases-expanded
decreases-expanded l = measure l.known.now (type_term l.ty.now) l.fuel
