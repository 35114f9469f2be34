use Rattle.hs_lex.proofs.NumberLemmas.{digits_end, fraction_found}
use Rattle.hs_lex.proofs.number.fraction_len.Goals as goal

pub fraction_end-more-requires : goal.fraction_end-more-requires
fraction_end-more-requires c = digits_end c.args.bytes.now c.count-digits.result c.count-digits.ensures.value

pub returns : goal.returns
returns c = fraction_found c.args.bytes.now c.count-digits.result c.fraction_end-more.result
    c.count-digits.ensures.value c.if-digits-eq0.false c.fraction_end-more.ensures
