use Rattle.std.proofs.Common.{length, ap, arith}
use Rattle.std.proofs.Common.{length-drop}
use Rattle.hs_lex.proofs.LevelLemmas.{item_more}
use Rattle.hs_lex.proofs.literal.string.Goals as goal

pub items-preserved : goal.items-preserved
items-preserved c = record {
  same = item_more c.in-Some.first.now c.items.left.now c.in-Some.rest.now c.behind-left.result.now c.items.len
      c.in-Some-item.more _ c.in-Some.ensures.cases.0 c.if-first-eq34.false c.in-Some-item.ensures.value
      c.in-Some-item.ensures.within c.behind-left.ensures c.items.invariant.same;
  room = omega (
    arith,
    c.items.invariant.room,
    ap length c.in-Some.ensures.cases.0,
    ap length c.behind-left.ensures,
    length-drop c.in-Some-item.more c.in-Some.rest.now,
    c.in-Some-item.ensures.within,
  );
}
