use Rattle.std.proofs.Common.{sym}
use Rattle.hs_lex.proofs.NumberLemmas.{decimal_some}
use Rattle.hs_lex.proofs.number.decimal_end.Goals as goal

pub returns-in-Some-exponent_len : goal.returns-in-Some-exponent_len
returns-in-Some-exponent_len c = decimal_some c.in-Some.first.now c.in-Some.rest.now c.args.bytes.now
    c.in-Some-exponent_len.len c.in-Some.ensures.cases.0 c.requires c.if-first-eq46.false
    (sym c.if-exponent_letter.ensures) c.in-Some-exponent_len.ensures
