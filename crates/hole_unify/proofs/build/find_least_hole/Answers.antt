use Rattle.std.proofs.Common.{arith, ap, sym, ◌∙◌}
use Rattle.hole_unify.specs.Reach.{lesser}
use Rattle.hole_unify.specs.Build.{hole_of, number_built}
use Rattle.hole_unify.specs.Stages.{hole_at}
use Rattle.hole_unify.proofs.StageLemmas.{least-here, least-step, least-end}
use Rattle.hole_unify.proofs.build.find_least_hole.Goals as goal
use Rattle.hole_unify.proofs.build.find_least_hole.Goals.{then-each-class, else-each-class}

pub loop-number-preserved : goal.loop-number-preserved
loop-number-preserved c =
    let old = c.loop-number.invariant.least in
    record {
      least = elim c.if-each-class.branch [
        | then-each-class w ↦ (
          lesser old.0 (hole_at c.args.table.now c.loop-number.number),
          ap (number_built c.args.table.now) w.best-is ∙ w.lesser_number-best.ensures.lesser old.0 old.1,
          least-here c.args.table.now c.args.classes.now c.loop-number.number c.args.class c.requires
              c.loop-number-test.true old.0 _ old.2 w.if-each-class.true,
        )
        | else-each-class w ↦ (
          old.0,
          ap (number_built c.args.table.now) w.best-is ∙ old.1,
          least-step c.args.table.now c.args.classes.now c.loop-number.number c.args.class c.requires
              c.loop-number-test.true old.0 _ old.2 w.if-each-class.false,
        )
      ];
      below = λ k e. elim c.if-each-class.branch [
        | then-each-class w ↦ w.lesser_number-best.ensures.below k (sym w.best-is ∙ e)
        | else-each-class w ↦ c.loop-number.invariant.below k (sym w.best-is ∙ e)
      ];
    }

pub returns-clause-least : goal.returns-clause-least
returns-clause-least c =
    let old = c.loop-number.invariant.least in
    old.1 ∙ ap hole_of (least-end c.args.table.now c.args.classes.now c.loop-number.number c.args.class old.0 _
    c.requires (omega arith) old.2)
