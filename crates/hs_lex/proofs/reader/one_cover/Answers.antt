use Rattle.hs_lex.proofs.UniquenessLemmas.{one_cover as all_one}
use Rattle.hs_lex.proofs.reader.one_cover.Goals as goal

pub returns : goal.returns
returns c = λ text ps qs h g. all_one text ps qs h g
