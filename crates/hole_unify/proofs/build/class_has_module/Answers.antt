use Rattle.std.proofs.Common.{◌≡◌, true, false, arith, sym, ◌∙◌}
use Rattle.hole_unify.proofs.StageLemmas.{module-here, module-step, module-none}
use Rattle.hole_unify.proofs.build.class_has_module.Goals as goal
use Rattle.hole_unify.proofs.build.class_has_module.Goals.{else-each-class-via-then-each-class+else-is_module_at}
use Rattle.hole_unify.proofs.build.class_has_module.Goals.{else-each-class-via-else-each-class}

pub returns-then-is_module_at : goal.returns-then-is_module_at
returns-then-is_module_at c = module-here c.args.table.now c.args.classes.now c.loop-number.number c.args.class _
    c.requires c.loop-number-test.true c.if-each-class.true (sym c.is_module_at.ensures
    ∙ c.if-is_module_at.true) c.loop-number.invariant

pub loop-number-preserved : goal.loop-number-preserved
loop-number-preserved c = module-step c.args.table.now c.args.classes.now c.loop-number.number c.args.class _ c.requires
    c.loop-number-test.true
    (λ is kind. elim c.else-each-class.branch [
      | else-each-class-via-then-each-class+else-is_module_at w ↦
          (let e : true ≡ false = sym kind ∙ sym w.is_module_at.ensures ∙ w.if-is_module_at.false in
          cc)
      | else-each-class-via-else-each-class w ↦ w.if-each-class.false is
    ])
    c.loop-number.invariant

pub returns : goal.returns
returns c = module-none c.args.table.now c.args.classes.now c.loop-number.number c.args.class _ c.requires
    (omega arith) c.loop-number.invariant
