use Rattle.std.proofs.Common.{sym, ◌∙◌, true≢false}
use Rattle.hs_headers.proofs.ListLemmas.{empty_missed, comma_missed}
use Rattle.hs_headers.proofs.listed.read_none.Goals as goal

pub returns-then-not-trailing : goal.returns-then-not-trailing
returns-then-not-trailing g c =
    empty_missed g.P.Listed.element c.args.trailing c.args.tokens.now c.requires c.in_default.ensures
    (λ may. absurd (true≢false (sym may ∙ c.if-not-trailing.true)))

pub returns-in_default-after_comma : goal.returns-in_default-after_comma
returns-in_default-after_comma g c =
    empty_missed g.P.Listed.element c.args.trailing c.args.tokens.now c.requires c.in_default.ensures
    (λ may. c.in_default-after_comma.ensures)

pub returns-in-None : goal.returns-in-None
returns-in-None g c =
    comma_missed g.P.Listed.element c.args.trailing c.args.tokens.now _ c.if-not-trailing.false
    c.in-Some-after_comma.ensures c.in-None.ensures
