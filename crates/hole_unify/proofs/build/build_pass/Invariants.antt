use Rattle.std.proofs.Common.{◌≡◌, drop}
use Rattle.hole_unify.specs.Table.{nodes_of}
use Rattle.hole_unify.specs.Build.{built_of, first_ready}
use Rattle.hole_unify.specs.Stages.{IsStage, Steps}
use Rattle.hole_unify.proofs.build.build_pass.Given as goal

abbrev pub invariant-loop-number : goal.invariant-loop-number
invariant-loop-number l = record {
  stage : IsStage l.table l.classes l.built;
  steps : Steps l.classes l.fn.table l.fn.built l.table l.built
      (first_ready (nodes_of l.fn.table l.classes) (built_of l.fn.table l.fn.built)
      (drop l.number (nodes_of l.fn.table l.classes)) ≡ first_ready (nodes_of l.fn.table l.classes)
      (built_of l.fn.table l.fn.built) (nodes_of l.fn.table l.classes)) l.more;
}
