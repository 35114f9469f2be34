use Rattle.flat_lex.proofs.LiteralLemmas.{literals_stand}
use Rattle.flat_lex.proofs.laws.literals_are_pieces.Goals as goal

pub returns : goal.returns
returns c = literals_stand
