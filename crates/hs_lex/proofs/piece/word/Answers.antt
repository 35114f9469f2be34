use Rattle.hs_lex.proofs.PieceLemmas.{word_stands}
use Rattle.hs_lex.proofs.piece.word.Goals as goal

pub returns : goal.returns
returns c = word_stands c.args.first c.args.rest.now c.args.text.now c.front.result.now c.count-len.result
    c.kind_of_word.result c.requires c.front.ensures c.kind_of_word.ensures c.count-len.ensures.value
    c.count-len.ensures.within
