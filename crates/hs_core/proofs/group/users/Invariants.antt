use Rattle.hs_core.specs.Walking.{IsTurnedBelow}
use Rattle.hs_core.proofs.group.users.Given as goal

abbrev pub invariant-loop-user : goal.invariant-loop-user
invariant-loop-user l = IsTurnedBelow l.uses l.users.items l.user
