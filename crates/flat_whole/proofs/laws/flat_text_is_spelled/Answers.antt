use Rattle.flat_whole.proofs.WholeLemmas.{whole_spelled}
use Rattle.flat_whole.proofs.laws.flat_text_is_spelled.Goals as goal

pub returns : goal.returns
returns c = whole_spelled
