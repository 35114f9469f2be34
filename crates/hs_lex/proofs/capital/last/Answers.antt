use Rattle.hs_lex.proofs.CapitalLemmas.{word_last, word_never, symbol_last, symbol_never}
use Rattle.hs_lex.proofs.capital.last.Goals as goal

pub returns-then-plain_word : goal.returns-then-plain_word
returns-then-plain_word c = word_last c.args.first c.args.rest.now c.args.text.now c.front.result.now c.count-len.result
    c.requires c.in-Small.ensures c.count-len.ensures.value c.count-len.ensures.within c.front.ensures
    c.if-plain_word.ensures

pub returns-else-plain_word : goal.returns-else-plain_word
returns-else-plain_word c = word_never c.args.first c.args.rest.now c.args.text.now c.front.result.now
    c.count-len.result c.requires c.in-Small.ensures c.count-len.ensures.value c.front.ensures c.if-plain_word.ensures

pub returns-then-plain_symbol : goal.returns-then-plain_symbol
returns-then-plain_symbol c = symbol_last c.args.first c.args.rest.now c.args.text.now c.front-symbol.result.now
    c.count-len-in-Symbol.result c.kind_of_operator.result c.requires c.in-Symbol.ensures
    c.count-len-in-Symbol.ensures.value c.count-len-in-Symbol.ensures.within c.front-symbol.ensures
    c.if-plain_symbol.ensures c.kind_of_operator.ensures

pub returns-else-plain_symbol : goal.returns-else-plain_symbol
returns-else-plain_symbol c = symbol_never c.args.first c.args.rest.now c.args.text.now c.front-symbol.result.now
    c.count-len-in-Symbol.result c.requires c.in-Symbol.ensures c.count-len-in-Symbol.ensures.value
    c.front-symbol.ensures c.if-plain_symbol.ensures
