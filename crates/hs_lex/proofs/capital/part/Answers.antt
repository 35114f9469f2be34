use Rattle.std.proofs.Common.{sym}
use Rattle.hs_lex.proofs.CapitalLemmas.{ends_other, ends_more, ends_last, ends_never}
use Rattle.hs_lex.proofs.capital.part.Goals as goal

pub returns-then-dot-ne46 : goal.returns-then-dot-ne46
returns-then-dot-ne46 c = ends_other c.args.bytes.now c.in-Some.dot.now c.in-Some.tail.now c.in-Some.ensures.cases.0
    c.requires c.if-dot-ne46.true

pub returns-then-is_ascii_uppercase : goal.returns-then-is_ascii_uppercase
returns-then-is_ascii_uppercase c = ends_more c.args.bytes.now c.in-Some.tail.now c.in-Some-split_first.rest.now
    c.in-Some.dot.now c.in-Some-split_first.first.now c.count.result c.in-Some.ensures.cases.0 c.if-dot-ne46.false
    c.in-Some-split_first.ensures.cases.0 (sym c.if-is_ascii_uppercase.ensures.value) c.count.ensures.value
    c.count.ensures.within

pub returns-in-Some-last : goal.returns-in-Some-last
returns-in-Some-last c = ends_last c.args.bytes.now c.in-Some.tail.now c.in-Some-split_first.rest.now c.in-Some.dot.now
    c.in-Some-split_first.first.now c.in-Some-last.kind c.in-Some-last.len c.in-Some.ensures.cases.0 c.if-dot-ne46.false
    c.in-Some-split_first.ensures.cases.0 (sym c.if-is_ascii_uppercase.ensures.value) c.in-Some-last.ensures

pub returns-in-None : goal.returns-in-None
returns-in-None c = ends_never c.args.bytes.now c.in-Some.tail.now c.in-Some-split_first.rest.now c.in-Some.dot.now
    c.in-Some-split_first.first.now c.in-Some.ensures.cases.0 c.if-dot-ne46.false c.in-Some-split_first.ensures.cases.0
    (sym c.if-is_ascii_uppercase.ensures.value) c.in-None.ensures
