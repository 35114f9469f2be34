use Rattle.flat_lines.proofs.ApartLemmas.{texts_fall_apart}
use Rattle.flat_lines.proofs.laws.flat_texts_fall_apart.Goals as goal

pub returns : goal.returns
returns c = texts_fall_apart
