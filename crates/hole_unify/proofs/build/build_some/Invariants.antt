use Rattle.hole_unify.specs.Stages.{IsStage, Follows}
use Rattle.hole_unify.proofs.build.build_some.Given as goal

abbrev pub invariant-loop-number : goal.invariant-loop-number
invariant-loop-number l = record {
  stage : IsStage l.table l.classes l.built;
  follows : Follows l.classes l.fn.table l.fn.built l.table l.built;
}
