use Rattle.hole_unify.specs.Stages.{IsStage, Follows}
use Rattle.hole_unify.proofs.build.build_in_order.Given as goal

abbrev pub invariant-loop-class : goal.invariant-loop-class
invariant-loop-class l = record {
  stage : IsStage l.table l.classes l.built;
  follows : Follows l.classes l.fn.table l.fn.built l.table l.built;
}
