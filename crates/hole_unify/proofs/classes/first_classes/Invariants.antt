use Rattle.std.proofs.Common.{◌≡◌}
use Rattle.hole_unify.specs.Table.{upto}
use Rattle.hole_unify.proofs.classes.first_classes.Given as goal

abbrev pub invariant-loop-class : goal.invariant-loop-class
invariant-loop-class l = l.classes.items ≡ upto l.class
