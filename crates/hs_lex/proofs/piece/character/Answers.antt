use Rattle.hs_lex.proofs.PieceLemmas.{char_stands, char_broken}
use Rattle.hs_lex.proofs.piece.character.Goals as goal

pub returns-in-Some : goal.returns-in-Some
returns-in-Some c = char_stands c.args.first c.args.rest.now c.args.text.now c.front.result.now c.in-Some.len
    c.checked_kind.result c.requires c.front.ensures c.checked_kind.ensures c.in-Some.ensures.value
    c.in-Some.ensures.within

pub returns-in-None : goal.returns-in-None
returns-in-None c = char_broken c.args.first c.args.rest.now c.in-None.ensures.value
