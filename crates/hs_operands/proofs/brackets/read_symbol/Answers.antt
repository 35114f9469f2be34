-- Each return is a lemma of `BracketLemmas`.
use Rattle.std.proofs.Common.{◌∷◌, ◌∙◌, ap, sym, true≢false}
use Rattle.hs_tokens.specs.declared.terminal.Terminal.TheVariants.{LeftParen}
use Rattle.hs_operand_forms.proofs.BracketLemmas.{minus_over, symbol_over}
use Rattle.hs_operand_forms.proofs.WordLemmas.{symbol_took}
use Rattle.hs_operands.proofs.PartLemmas.{dash_here, no_dash, opens_signed, opens_symbol}
use Rattle.hs_operands.proofs.brackets.read_symbol.Goals as goal

pub returns-in-Some : goal.returns-in-Some
returns-in-Some g c =
    rw c.in_ok-tree.ensures
    (symbol_took c.args.limit (LeftParen ∷ c.args.tokens.now) c.args.symbol.now c.in-Some.rest.now c.requires.symbol
    (ap (λ l. LeftParen ∷ l) (c.requires.at ∙ ap (λ l. c.args.symbol.now ∷ l) c.in-Some.ensures)))

pub returns-then-not-allows : goal.returns-then-not-allows
returns-then-not-allows g c =
    minus_over c.args.limit c.args.tokens.now c.args.symbol.now c.args.next.now c.requires.at c.requires.symbol
    c.in_default.ensures
    (dash_here c.args.tokens.now c.args.symbol.now c.args.next.now c.requires.at
    (sym c.begins_minus.ensures ∙ c.if-begins_minus.true))
    (λ w. true≢false (sym (c.allows.ensures.1 w) ∙ c.if-not-allows.true))

pub read_inside-requires-clause-opens : goal.read_inside-requires-clause-opens
read_inside-requires-clause-opens g c =
    opens_signed c.args.tokens.now c.args.symbol.now c.args.next.now c.requires.at c.args.limit
    (sym c.begins_minus.ensures ∙ c.if-begins_minus.true) c.in_default.ensures
    (c.allows.ensures.0 c.if-not-allows.false)

pub returns-then-not-allows-2 : goal.returns-then-not-allows-2
returns-then-not-allows-2 g c =
    symbol_over c.args.limit c.args.tokens.now c.args.symbol.now c.args.next.now c.requires.at c.requires.symbol
    c.in_default.ensures
    (no_dash c.args.tokens.now c.args.symbol.now c.args.next.now c.requires.at
    (sym c.begins_minus.ensures ∙ c.if-begins_minus.false))
    (λ w. true≢false (sym (c.allows-2.ensures.1 w) ∙ c.if-not-allows-2.true))

pub read_section-requires-clause-opens : goal.read_section-requires-clause-opens
read_section-requires-clause-opens g c =
    opens_symbol c.args.tokens.now c.args.symbol.now c.args.next.now c.requires.at c.requires.symbol
    (sym c.begins_minus.ensures ∙ c.if-begins_minus.false) c.in_default.ensures
