use Rattle.hs_lex.proofs.PieceLemmas.{brace_end, brace_plain, nested_stands, open_stands}
use Rattle.hs_lex.proofs.piece.brace.Goals as goal

pub returns-in_default : goal.returns-in_default
returns-in_default c = brace_end c.args.first c.args.rest.now c.in_default.ensures.cases

pub returns-then-dash-ne45 : goal.returns-then-dash-ne45
returns-then-dash-ne45 c = brace_plain c.args.first c.args.rest.now c.in-Some.dash.now c.in-Some.inside.now
    c.in-Some.ensures.cases.0 c.if-dash-ne45.true

pub returns-in-Some-nested : goal.returns-in-Some-nested
returns-in-Some-nested c = nested_stands c.args.first c.args.rest.now c.args.text.now c.front.result.now
    c.in-Some.dash.now c.in-Some.inside.now c.in-Some-nested.len c.checked_kind.result c.requires c.front.ensures
    c.checked_kind.ensures c.in-Some.ensures.cases.0 c.if-dash-ne45.false c.in-Some-nested.ensures.value
    c.in-Some-nested.ensures.within

pub returns-in-None : goal.returns-in-None
returns-in-None c = open_stands c.args.first c.args.rest.now c.in-Some.dash.now c.in-Some.inside.now
    c.in-Some.ensures.cases.0 c.if-dash-ne45.false c.in-None.ensures.value
