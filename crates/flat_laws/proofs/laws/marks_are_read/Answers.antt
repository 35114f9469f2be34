use Rattle.flat_laws.proofs.ReadingLemmas.{marks_read}
use Rattle.flat_laws.proofs.laws.marks_are_read.Goals as goal

pub returns : goal.returns
returns c = marks_read
