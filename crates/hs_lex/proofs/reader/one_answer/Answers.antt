use Rattle.hs_lex.proofs.UniquenessLemmas.{one_answer as all_one}
use Rattle.hs_lex.proofs.reader.one_answer.Goals as goal

pub returns : goal.returns
returns c = λ text one two h g x y. all_one text one two h g x y
