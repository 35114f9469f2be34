use Rattle.hs_lex.proofs.PieceLemmas.{comment_stands, symbol_stands}
use Rattle.hs_lex.proofs.piece.symbol.Goals as goal

pub returns-then-dashed : goal.returns-then-dashed
returns-then-dashed c = comment_stands c.args.first c.args.rest.now c.args.text.now c.front.result.now
    c.count-line.result c.checked_kind.result c.requires c.front.ensures c.checked_kind.ensures c.if-dashed.ensures
    c.count-line.ensures.value c.count-line.ensures.within

pub returns : goal.returns
returns c = symbol_stands c.args.first c.args.rest.now c.args.text.now c.front-2.result.now c.count-len.result
    c.kind_of_symbol.result c.requires c.front-2.ensures c.kind_of_symbol.ensures c.if-dashed.ensures
    c.count-len.ensures.value c.count-len.ensures.within
