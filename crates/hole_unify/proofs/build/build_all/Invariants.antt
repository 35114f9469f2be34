use Rattle.hole_unify.specs.Stages.{IsStage, Follows, unbuilt_classes}
use Rattle.hole_unify.proofs.build.build_all.Given as goal

abbrev pub invariant-passes : goal.invariant-passes
invariant-passes l = record {
  stage : IsStage l.table l.classes l.built;
  follows : Follows l.classes l.fn.table l.fn.built l.table l.built;
}

abbrev pub decreases-passes : goal.decreases-passes
decreases-passes l = unbuilt_classes l.built
