use Rattle.std.proofs.Common.{sym}
use Rattle.hs_lex.specs.declared.kind.Form.TheVariants as f
use Rattle.hs_lex.proofs.NumberLemmas.{zero_hex_some, zero_hex_none, zero_octal_some, zero_octal_none, zero_else}
use Rattle.hs_lex.proofs.number.zero_len.Goals as goal

pub returns-in-Some-run : goal.returns-in-Some-run
returns-in-Some-run c = zero_hex_some c.in-Some.first.now c.in-Some.rest.now c.args.bytes.now c.in-Some-run.len
    c.in-Some.ensures.cases.0 (sym c.if-hexadecimal_letter.ensures) (c.in-Some-run.ensures.run f.Hexadecimal)

pub returns-in-None : goal.returns-in-None
returns-in-None c = zero_hex_none c.in-Some.first.now c.in-Some.rest.now c.args.bytes.now c.in-Some.ensures.cases.0
    (sym c.if-hexadecimal_letter.ensures) (c.in-None.ensures.run f.Hexadecimal)

pub returns-in-Some-run-2 : goal.returns-in-Some-run-2
returns-in-Some-run-2 c = zero_octal_some c.in-Some.first.now c.in-Some.rest.now c.args.bytes.now c.in-Some-run-2.len
    c.in-Some.ensures.cases.0 (sym c.if-hexadecimal_letter.ensures) (sym c.if-octal_letter.ensures)
    (c.in-Some-run-2.ensures.run f.Octal)

pub returns-in-None-run : goal.returns-in-None-run
returns-in-None-run c = zero_octal_none c.in-Some.first.now c.in-Some.rest.now c.args.bytes.now
    c.in-Some.ensures.cases.0 (sym c.if-hexadecimal_letter.ensures) (sym c.if-octal_letter.ensures)
    (c.in-None-run.ensures.run f.Octal)

pub returns : goal.returns
returns c = zero_else c.in-Some.first.now c.in-Some.rest.now c.args.bytes.now c.decimal_len.result.0
    c.decimal_len.result.1 c.in-Some.ensures.cases.0 (sym c.if-hexadecimal_letter.ensures)
    (sym c.if-octal_letter.ensures) c.decimal_len.ensures
