use Rattle.std.proofs.Common.{arith}
use Rattle.hs_lex.proofs.NumberLemmas.{value_exceeds}
use Rattle.literal_values.proofs.ValueLemmas.{exceeded}
use Rattle.literal_values.proofs.number.number.Goals as goal

pub returns-in_default-next_value : goal.returns-in_default-next_value
returns-in_default-next_value c = exceeded _ _ (value_exceeds c.args.base c.digits.value _ c.args.limit
    c.in-Some.byte.now c.digits.left.now c.in-Some.rest.now c.requires c.in-Some.ensures.cases.0 c.digits.invariant.same
    (omega (arith, c.in_default-next_value.ensures)))

pub returns-then-next-limit : goal.returns-then-next-limit
returns-then-next-limit c = exceeded _ _ (value_exceeds c.args.base c.digits.value _ c.args.limit c.in-Some.byte.now
    c.digits.left.now c.in-Some.rest.now c.requires c.in-Some.ensures.cases.0 c.digits.invariant.same
    (omega (arith, c.if-next-limit.true, c.in-Some-next_value.ensures)))
