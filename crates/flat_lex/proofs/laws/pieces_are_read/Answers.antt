use Rattle.flat_lex.proofs.LexemeLemmas.{lexed}
use Rattle.flat_lex.proofs.laws.pieces_are_read.Goals as goal

pub returns : goal.returns
returns c = lexed
