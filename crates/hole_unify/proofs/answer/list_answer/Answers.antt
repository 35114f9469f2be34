use Rattle.std.proofs.Common.{length, sym, ap, ◌∙◌, subst, arith}
use Rattle.ident_table.specs.Numbers.{fills_of, AreFillsBelow}
use Rattle.hole_unify.proofs.PlaceLemmas.{Among-built}
use Rattle.hole_unify.proofs.FillingLemmas.{answer-step, answer-end}
use Rattle.hole_unify.proofs.answer.list_answer.Goals as goal

pub put_built-requires-clause-built : goal.put_built-requires-clause-built
put_built-requires-clause-built c k e = c.requires.below k
    (Among-built c.args.built.now _ k (sym c.built_at.ensures ∙ e))

pub loop-number-preserved : goal.loop-number-preserved
loop-number-preserved c = record {
  so_far = answer-step c.args.table.now c.args.classes.now c.args.built.now c.loop-number.number c.requires.length
      c.loop-number-test.true (fills_of c.args.table.now c.loop-number.fills.items)
      (fills_of c.args.table.now c.put_built.new.fills.items) _ c.built_at.result
      c.built_at.ensures c.in_ok-put_built.ensures.fills c.loop-number.invariant.so_far;
  rise = c.in_ok-put_built.ensures.rise;
  below = c.in_ok-put_built.ensures.below;
}

pub returns-clause-fills : goal.returns-clause-fills
returns-clause-fills c =
    ap (fills_of c.args.table.now) c.from_vec.ensures
    ∙ answer-end c.args.table.now c.args.classes.now c.args.built.now c.loop-number.number c.requires.length
    (omega arith) (fills_of c.args.table.now c.loop-number.fills.items) _ c.loop-number.invariant.so_far

pub returns-clause-below : goal.returns-clause-below
returns-clause-below c = subst (AreFillsBelow (length c.args.table.now))
    (sym c.from_vec.ensures) c.loop-number.invariant.below
