use Rattle.std.proofs.Common.{◌≡◌, ◌||◌, subst, arith}
use Rattle.hole_unify.specs.Stages.{Steps}
use Rattle.hole_unify.proofs.StageLemmas.{pass-step, pass-end, or-then, or-else}
use Rattle.hole_unify.proofs.build.build_pass.Goals as goal
use Rattle.hole_unify.proofs.build.build_pass.Goals.{then-branch, else-branch}

pub loop-number-preserved : goal.loop-number-preserved
loop-number-preserved c =
    let more : c.loop-number.more || c.in_ok-build_class_of.field-0 ≡ c.if-branch.more = elim c.if-branch.branch [
      | then-branch w ↦ or-then c.loop-number.more c.in_ok-build_class_of.field-0 c.if-branch.more w.if-branch.true
          w.more-is
      | else-branch w ↦ or-else c.loop-number.more c.in_ok-build_class_of.field-0 c.if-branch.more w.if-branch.false
          w.more-is
    ] in
    record {
      stage = c.in_ok-build_class_of.ensures.stage;
      steps = subst (Steps c.args.classes.now c.args.table.now c.args.built.now c.build_class_of.new.table
          c.build_class_of.new.built _) more
          (pass-step c.args.classes.now c.args.table.now c.loop-number.table c.build_class_of.new.table c.args.built.now
          c.loop-number.built c.build_class_of.new.built c.loop-number.number c.loop-number.more
          c.in_ok-build_class_of.field-0
          c.requires.listed c.loop-number-test.true c.loop-number.invariant.steps c.in_ok-build_class_of.ensures.steps);
    }

pub returns-clause-steps : goal.returns-clause-steps
returns-clause-steps c =
    pass-end c.args.classes.now c.args.table.now c.loop-number.table c.args.built.now c.loop-number.built
    c.loop-number.number c.loop-number.more c.requires.listed (omega arith) c.loop-number.invariant.steps
