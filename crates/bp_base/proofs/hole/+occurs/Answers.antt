use Rattle.bp_base.proofs.HoleLemmas.{has_hole-said}
use Rattle.bp_base.proofs.hole.+occurs.Goals as goal

pub occurs-returns-in-Module : goal.occurs-returns-in-Module
occurs-returns-in-Module t c = has_hole-said _ _ _ _ _ _ c.in-Module.is c.get.ensures c.occurs_in_unit.ensures
