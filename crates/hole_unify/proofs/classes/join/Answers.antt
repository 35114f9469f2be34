use Rattle.std.proofs.Common.{◌<◌, length, arith}
use Rattle.hole_unify.proofs.NumberingLemmas.{join-step}
use Rattle.hole_unify.proofs.classes.join.Goals as goal

pub loop-class-preserved : goal.loop-class-preserved
loop-class-preserved c =
    let lt : c.loop-class.class-index < length c.args.classes.now =
    omega (arith, c.loop-class-test.true, c.loop-class.auto.classes) in
    join-step c.args.from c.args.to c.args.classes.now c.loop-class.classes c.loop-class.class-index _ lt
    c.loop-class.invariant c.class_after.ensures
