use Rattle.hs_lex.specs.Numbers.{decimal}
use Rattle.hs_lex.proofs.NumberLemmas.{digits_end, digits_then, decimal_digit}
use Rattle.hs_lex.proofs.number.decimal_len.Goals as goal

pub decimal_end-form-requires : goal.decimal_end-form-requires
decimal_end-form-requires c = digits_end c.args.bytes.now c.count-digits.result c.count-digits.ensures.value

pub returns : goal.returns
returns c = digits_then decimal c.args.bytes.now c.count-digits.result c.decimal_end-form.result.0
    c.decimal_end-form.result.1 c.count-digits.ensures.value decimal_digit c.decimal_end-form.ensures
