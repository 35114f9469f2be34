-- Each return is a lemma of `BracketLemmas`.
use Rattle.std.proofs.Common.{◌∙◌, sym, true≢false}
use Rattle.hs_operand_forms.specs.Brackets.{plain, quoted}
use Rattle.hs_operand_forms.proofs.OpeningLemmas.{not_special}
use Rattle.hs_operand_forms.proofs.BracketLemmas.{plain_over, quote_over}
use Rattle.hs_operands.proofs.brackets.read_nameless.Goals as goal

pub returns-then-not-allows : goal.returns-then-not-allows
returns-then-not-allows g c =
    quote_over c.args.limit c.args.tokens.now (sym c.begins_backquote.ensures ∙ c.if-begins_backquote.true)
    (λ w. true≢false (sym (c.allows.ensures.1 w) ∙ c.if-not-allows.true))

pub read_section-requires-clause-opens : goal.read_section-requires-clause-opens
read_section-requires-clause-opens g c = quoted (sym c.begins_backquote.ensures ∙ c.if-begins_backquote.true)

pub returns-then-not-allows-2 : goal.returns-then-not-allows-2
returns-then-not-allows-2 g c =
    plain_over c.args.limit c.args.tokens.now
    (not_special c.args.tokens.now c.requires.no_name c.requires.no_symbol
    (sym c.begins_backquote.ensures ∙ c.if-begins_backquote.false))
    (λ w. true≢false (sym (c.allows-2.ensures.1 w) ∙ c.if-not-allows-2.true))

pub read_inside-requires-clause-opens : goal.read_inside-requires-clause-opens
read_inside-requires-clause-opens g c =
    plain (not_special c.args.tokens.now c.requires.no_name c.requires.no_symbol
    (sym c.begins_backquote.ensures ∙ c.if-begins_backquote.false))
    (c.allows-2.ensures.0 c.if-not-allows-2.false)
