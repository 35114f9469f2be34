use Rattle.hs_lex.proofs.PieceLemmas.{number_stands}
use Rattle.hs_lex.proofs.piece.number.Goals as goal

pub returns : goal.returns
returns c = number_stands c.args.first c.args.rest.now c.args.text.now c.front.result.now c.number_len-form.result.1
    c.number_len-form.result.0 c.kind_of_number.result c.requires c.front.ensures c.kind_of_number.ensures
    c.number_len-form.ensures
