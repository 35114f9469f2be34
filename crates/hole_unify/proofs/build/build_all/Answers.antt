use Rattle.hole_unify.proofs.StageLemmas.{follows-more, steps-follow, pass-fewer, pass-none}
use Rattle.hole_unify.proofs.build.build_all.Goals as goal

pub passes-smaller : goal.passes-smaller
passes-smaller c = pass-fewer c.args.classes.now c.passes.table c.build_pass.new.table c.passes.built
    c.build_pass.new.built _ c.in_ok-build_pass.field-0 c.if-branch.true c.in_ok-build_pass.ensures.steps

pub passes-preserved : goal.passes-preserved
passes-preserved c = record {
  stage = c.in_ok-build_pass.ensures.stage;
  follows = follows-more c.args.classes.now c.args.table.now c.passes.table c.build_pass.new.table c.args.built.now
      c.passes.built c.build_pass.new.built c.requires.listed c.passes.invariant.follows
      (steps-follow c.args.classes.now c.passes.table c.build_pass.new.table c.passes.built c.build_pass.new.built _
      c.in_ok-build_pass.field-0 c.in_ok-build_pass.ensures.steps);
}

pub returns-clause-follows : goal.returns-clause-follows
returns-clause-follows c =
    follows-more c.args.classes.now c.args.table.now c.passes.table c.build_pass.new.table c.args.built.now
    c.passes.built c.build_pass.new.built c.requires.listed c.passes.invariant.follows
    (steps-follow c.args.classes.now c.passes.table c.build_pass.new.table c.passes.built c.build_pass.new.built _
    c.in_ok-build_pass.field-0 c.in_ok-build_pass.ensures.steps)

pub returns-clause-ends : goal.returns-clause-ends
returns-clause-ends c =
    pass-none c.args.classes.now c.args.table.now c.passes.table c.build_pass.new.table c.args.built.now c.passes.built
    c.build_pass.new.built c.in_ok-build_pass.field-0 c.requires.listed c.passes.invariant.follows c.if-branch.false
    c.in_ok-build_pass.ensures.steps
