use Rattle.std.proofs.Common.{refl}
use Rattle.hs_lex.specs.declared.class.Start.TheVariants as s
use Rattle.hs_lex.specs.declared.kind.Kind.TheVariants as k
use Rattle.hs_tokens.specs.declared.token.TokenKind.TheVariants as t
use Rattle.hs_lex.proofs.PieceLemmas.{at_start, alone_stands}
use Rattle.hs_lex.proofs.piece.piece.Goals as goal

pub returns-in-Small : goal.returns-in-Small
returns-in-Small c = at_start s.Small c.args.first c.args.rest.now c.word.result.0 c.word.result.1 c.in-Small.ensures
    c.word.ensures

pub returns-in-Large : goal.returns-in-Large
returns-in-Large c = at_start s.Large c.args.first c.args.rest.now c.capital_len.result.0 c.capital_len.result.1
    c.in-Large.ensures c.capital_len.ensures

pub returns-in-Digit : goal.returns-in-Digit
returns-in-Digit c = at_start s.Digit c.args.first c.args.rest.now c.number.result.0 c.number.result.1
    c.in-Digit.ensures c.number.ensures

pub returns-in-White : goal.returns-in-White
returns-in-White c = at_start s.White c.args.first c.args.rest.now k.White 0 c.in-White.ensures
    (alone_stands s.White k.White c.args.first c.args.rest.now (λ ys r. refl))

pub returns-in-Brace : goal.returns-in-Brace
returns-in-Brace c = at_start s.Brace c.args.first c.args.rest.now c.brace.result.0 c.brace.result.1 c.in-Brace.ensures
    c.brace.ensures

pub returns-in-Special : goal.returns-in-Special
returns-in-Special c = at_start s.Special c.args.first c.args.rest.now (k.Token t.Special) 0 c.in-Special.ensures
    (alone_stands s.Special (k.Token t.Special) c.args.first c.args.rest.now (λ ys r. refl))

pub returns-in-Symbol : goal.returns-in-Symbol
returns-in-Symbol c = at_start s.Symbol c.args.first c.args.rest.now c.symbol.result.0 c.symbol.result.1
    c.in-Symbol.ensures c.symbol.ensures

pub returns-in-Quote : goal.returns-in-Quote
returns-in-Quote c = at_start s.Quote c.args.first c.args.rest.now c.character.result.0 c.character.result.1
    c.in-Quote.ensures c.character.ensures

pub returns-in-DoubleQuote : goal.returns-in-DoubleQuote
returns-in-DoubleQuote c = at_start s.DoubleQuote c.args.first c.args.rest.now c.string_literal.result.0
    c.string_literal.result.1 c.in-DoubleQuote.ensures c.string_literal.ensures

pub returns-in-Other : goal.returns-in-Other
returns-in-Other c = at_start s.Other c.args.first c.args.rest.now k.Broken 0 c.in-Other.ensures
    (alone_stands s.Other k.Broken c.args.first c.args.rest.now (λ ys r. refl))
