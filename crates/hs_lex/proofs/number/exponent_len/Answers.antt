use Rattle.std.proofs.Common.{◌∙◌, sym}
use Rattle.hs_lex.specs.declared.kind.Form.TheVariants as f
use Rattle.hs_lex.proofs.NumberLemmas.{exponent_else, exponent_none, exponent_some}
use Rattle.hs_lex.proofs.number.exponent_len.Goals as goal

pub returns-then-not-sign : goal.returns-then-not-sign
returns-then-not-sign c = exponent_else c.in-Some.first.now c.in-Some.rest.now c.args.bytes.now c.run.result
    c.in-Some.ensures.cases.0 (sym c.sign.ensures ∙ c.if-not-sign.true) (c.run.ensures.run f.Floating)

pub returns-in-Some-run : goal.returns-in-Some-run
returns-in-Some-run c = exponent_some c.in-Some.first.now c.in-Some.rest.now c.args.bytes.now c.in-Some-run.len
    c.in-Some.ensures.cases.0 (sym c.sign.ensures ∙ c.if-not-sign.false) (c.in-Some-run.ensures.run f.Floating)

pub returns-in-None : goal.returns-in-None
returns-in-None c = exponent_none c.in-Some.first.now c.in-Some.rest.now c.args.bytes.now c.in-Some.ensures.cases.0
    (sym c.sign.ensures ∙ c.if-not-sign.false) (c.in-None.ensures.run f.Floating)
