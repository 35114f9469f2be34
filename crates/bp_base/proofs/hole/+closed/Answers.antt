use Rattle.bp_base.proofs.HoleLemmas.{closed-said}
use Rattle.bp_base.proofs.hole.+closed.Goals as goal

pub is_closed-returns-in-Module : goal.is_closed-returns-in-Module
is_closed-returns-in-Module t c = closed-said _ _ _ _ _ c.in-Module.is c.get.ensures c.is_closed_unit.ensures
