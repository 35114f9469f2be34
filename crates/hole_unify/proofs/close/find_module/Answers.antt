use Rattle.std.proofs.Common.{rules, ◌≡◌, ◌&&◌, false, nat_eq, get_or, arith}
use Rattle.ident_table.specs.Numbers.{ident_of}
use Rattle.hole_unify.specs.Table.{is_module}
use Rattle.hole_unify.proofs.NumberingLemmas.{module-step, module-none}
use Rattle.hole_unify.proofs.close.find_module.Goals as goal
use Rattle.hole_unify.proofs.close.find_module.Goals.{else-each-class-via-then-each-class+else-is_module_at}
use Rattle.hole_unify.proofs.close.find_module.Goals.{else-each-class-via-else-each-class}

pub loop-number-preserved : goal.loop-number-preserved
loop-number-preserved c = elim c.else-each-class.branch [
  | else-each-class-via-then-each-class+else-is_module_at w ↦
      let off : nat_eq (get_or c.args.classes.now c.loop-number.number 0) c.args.class && is_module
      (ident_of c.args.table.now c.loop-number.number) ≡ false = search rules in
      module-step c.args.table.now c.args.classes.now c.args.class c.loop-number.number _
      (omega (arith, c.loop-number-test.true)) c.requires off c.loop-number.invariant
  | else-each-class-via-else-each-class w ↦
      let off : nat_eq (get_or c.args.classes.now c.loop-number.number 0) c.args.class && is_module
      (ident_of c.args.table.now c.loop-number.number) ≡ false = search rules in
      module-step c.args.table.now c.args.classes.now c.args.class c.loop-number.number _
      (omega (arith, c.loop-number-test.true)) c.requires off c.loop-number.invariant
]

pub returns-clause-module : goal.returns-clause-module
returns-clause-module c = module-none c.args.table.now c.args.classes.now c.args.class c.loop-number.number _
    (omega (arith, c.loop-number-test.false)) c.loop-number.invariant
