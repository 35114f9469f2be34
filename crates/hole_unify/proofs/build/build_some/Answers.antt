use Rattle.hole_unify.proofs.StageLemmas.{follows-more, steps-follow, moved-stage, moved-follows}
use Rattle.hole_unify.proofs.build.build_some.Goals as goal
use Rattle.hole_unify.proofs.build.build_some.Goals.{then-number-classes+in_ok-build_class_of, else-number-classes}

pub loop-number-preserved : goal.loop-number-preserved
loop-number-preserved c =
    let old = c.loop-number.invariant in
    elim c.if-number-classes.branch [
      | then-number-classes+in_ok-build_class_of w ↦ record {
        stage = moved-stage c.args.classes.now w.build_class_of.new.table c.if-number-classes.table
            w.build_class_of.new.built c.if-number-classes.built w.table-is w.built-is
            w.in_ok-build_class_of.ensures.stage;
        follows = moved-follows c.args.classes.now c.args.table.now w.build_class_of.new.table c.if-number-classes.table
            c.args.built.now w.build_class_of.new.built c.if-number-classes.built w.table-is w.built-is
            (follows-more c.args.classes.now c.args.table.now c.loop-number.table w.build_class_of.new.table
            c.args.built.now c.loop-number.built w.build_class_of.new.built c.requires.listed old.follows
            (steps-follow c.args.classes.now c.loop-number.table w.build_class_of.new.table c.loop-number.built
            w.build_class_of.new.built _ w.in_ok-build_class_of.field-0 w.in_ok-build_class_of.ensures.steps));
      }
      | else-number-classes w ↦ record {
        stage = moved-stage c.args.classes.now c.loop-number.table c.if-number-classes.table c.loop-number.built
            c.if-number-classes.built w.table-is w.built-is old.stage;
        follows = moved-follows c.args.classes.now c.args.table.now c.loop-number.table c.if-number-classes.table
            c.args.built.now c.loop-number.built c.if-number-classes.built w.table-is w.built-is old.follows;
      }
    ]
