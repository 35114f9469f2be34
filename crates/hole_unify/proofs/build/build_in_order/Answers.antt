use Rattle.hole_unify.proofs.StageLemmas.{follows-more, moved-stage, moved-follows}
use Rattle.hole_unify.proofs.build.build_in_order.Goals as goal
use Rattle.hole_unify.proofs.build.build_in_order.Goals.{then-class-len+in_ok-build_some, else-class-len}

pub loop-class-preserved : goal.loop-class-preserved
loop-class-preserved c =
    let old = c.loop-class.invariant in
    elim c.if-class-len.branch [
      | then-class-len+in_ok-build_some w ↦ record {
        stage = moved-stage c.args.classes.now w.build_some.new.table c.if-class-len.table w.build_some.new.built
            c.if-class-len.built w.table-is w.built-is w.in_ok-build_some.ensures.stage;
        follows = moved-follows c.args.classes.now c.args.table.now w.build_some.new.table c.if-class-len.table
            c.args.built.now w.build_some.new.built c.if-class-len.built w.table-is w.built-is
            (follows-more c.args.classes.now c.args.table.now c.loop-class.table w.build_some.new.table c.args.built.now
            c.loop-class.built w.build_some.new.built c.requires.listed old.follows
            w.in_ok-build_some.ensures.follows);
      }
      | else-class-len w ↦ record {
        stage = moved-stage c.args.classes.now c.loop-class.table c.if-class-len.table c.loop-class.built
            c.if-class-len.built w.table-is w.built-is old.stage;
        follows = moved-follows c.args.classes.now c.args.table.now c.loop-class.table c.if-class-len.table
            c.args.built.now c.loop-class.built c.if-class-len.built w.table-is w.built-is old.follows;
      }
    ]
