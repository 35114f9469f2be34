use Rattle.flat_laws.proofs.BraceLemmas.{module_read}
use Rattle.flat_laws.proofs.laws.flat_text_is_read.Goals as goal

pub returns : goal.returns
returns c = module_read
