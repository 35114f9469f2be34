use Rattle.std.proofs.Common.{◌≡◌, length}
use Rattle.hs_core.specs.Types.{type_term, applied_to}
use Rattle.type_expand.specs.Expanding.{stacked_types}
use Rattle.type_expand.proofs.apply.apply_all.Given as goal

abbrev pub invariant-arguments : goal.invariant-arguments
invariant-arguments l = applied_to (type_term l.all) (stacked_types l.rest)
    ≡ applied_to (type_term l.fn.ty) (stacked_types l.fn.args)

abbrev pub decreases-arguments : goal.decreases-arguments
decreases-arguments l = length l.rest
