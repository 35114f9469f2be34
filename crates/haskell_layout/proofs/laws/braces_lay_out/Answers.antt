use Rattle.haskell_layout.proofs.AnsweringLemmas as answering
use Rattle.haskell_layout.proofs.laws.braces_lay_out.Goals as goal

pub returns : goal.returns
returns c = answering.braces_lay_out
