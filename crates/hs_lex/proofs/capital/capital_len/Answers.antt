use Rattle.std.proofs.Common.{◌∙◌, length, ap, arith}
use Rattle.hs_lex.specs.declared.class.Class.TheVariants as k
use Rattle.hs_lex.specs.Classes.{is_in, begins}
use Rattle.std.proofs.Common.{length-drop}
use Rattle.hs_lex.proofs.CapitalLemmas.{ahead_first, ahead_more, ahead_end, first_whole}
use Rattle.hs_lex.proofs.capital.capital_len.Goals as goal

pub parts-init : goal.parts-init
parts-init c = record {
  room = omega (
    arith,
    ap length c.behind-left.ensures,
    length-drop c.count-len.result c.args.rest.now,
    c.count-len.ensures.within,
  );
  whole = first_whole c.args.rest.now c.behind-left.result.now c.count-len.result c.count-len.ensures.value
      c.behind-left.ensures;
  ahead = ahead_first c.args.rest.now c.behind-left.result.now c.count-len.result c.count-len.ensures.value
      c.behind-left.ensures;
}

pub returns-in-End : goal.returns-in-End
returns-in-End c = ahead_end c.args.rest.now c.parts.left.now c.parts.len c.parts.invariant.ahead c.in-End.ensures

pub returns-in-Last : goal.returns-in-Last
returns-in-Last c = c.parts.invariant.ahead c.in-Last.kind c.in-Last.more c.in-Last.ensures

pub parts-preserved : goal.parts-preserved
parts-preserved c = record {
  room = omega (
    arith,
    c.parts.invariant.room,
    ap length c.behind-left-in-More.ensures,
    length-drop c.in-More.more c.parts.left.now,
    c.in-More.ensures.within,
  );
  whole = ap (begins (is_in k.Name)) c.behind-left-in-More.ensures ∙ c.in-More.ensures.whole;
  ahead = ahead_more c.args.rest.now c.parts.left.now c.behind-left-in-More.result.now c.parts.len c.in-More.more
      c.parts.invariant.ahead c.in-More.ensures c.behind-left-in-More.ensures;
}
