use Rattle.std.proofs.Common.{◌∙◌, sym, ap, length, arith}
use Rattle.hs_lex.specs.Lexicon.{nested_len}
use Rattle.hs_lex.proofs.LevelLemmas.{level_opens, level_closes, level_stays}
use Rattle.hs_lex.proofs.comment.nested.Goals as goal

pub levels-preserved-then-is_open : goal.levels-preserved-then-is_open
levels-preserved-then-is_open c = record {
  same = level_opens c.levels.depth c.levels.len (nested_len 1 c.args.bytes.now) c.in-Some.first.now
      c.in-Some-split_first.second.now c.levels.rest.now
      c.in-Some.tail.now c.in-Some-split_first.after.now c.levels-test.true (sym c.is_open.ensures
      ∙ c.if-is_open.true) c.in-Some.ensures.cases.0
      c.in-Some-split_first.ensures.cases.0 c.levels.invariant.same;
  left = omega (
    arith,
    c.levels.invariant.left,
    ap length c.in-Some.ensures.cases.0,
    ap length c.in-Some-split_first.ensures.cases.0,
  );
  deep = omega (arith, c.levels.invariant.deep);
}

pub levels-preserved-then-is_close : goal.levels-preserved-then-is_close
levels-preserved-then-is_close c = record {
  same = level_closes c.levels.depth c.levels.len (nested_len 1 c.args.bytes.now) c.in-Some.first.now
      c.in-Some-split_first.second.now c.levels.rest.now
      c.in-Some.tail.now c.in-Some-split_first.after.now c.levels-test.true (sym c.is_open.ensures ∙ c.if-is_open.false)
      (sym c.is_close.ensures ∙ c.if-is_close.true) c.in-Some.ensures.cases.0 c.in-Some-split_first.ensures.cases.0
      c.levels.invariant.same;
  left = omega (
    arith,
    c.levels.invariant.left,
    ap length c.in-Some.ensures.cases.0,
    ap length c.in-Some-split_first.ensures.cases.0,
  );
  deep = omega (arith, c.levels.invariant.deep);
}

pub levels-preserved : goal.levels-preserved
levels-preserved c = record {
  same = level_stays c.levels.depth c.levels.len (nested_len 1 c.args.bytes.now) c.in-Some.first.now
      c.in-Some-split_first.second.now c.levels.rest.now
      c.in-Some.tail.now c.in-Some-split_first.after.now c.levels-test.true (sym c.is_open.ensures ∙ c.if-is_open.false)
      (sym c.is_close.ensures ∙ c.if-is_close.false) c.in-Some.ensures.cases.0 c.in-Some-split_first.ensures.cases.0
      c.levels.invariant.same;
  left = omega (arith, c.levels.invariant.left, ap length c.in-Some.ensures.cases.0);
  deep = omega (arith, c.levels.invariant.deep);
}
