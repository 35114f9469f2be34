use Rattle.flat_printable.proofs.PrintableLemmas.{printable_apart}
use Rattle.flat_printable.proofs.laws.printable_texts_fall_apart.Goals as goal

pub returns : goal.returns
returns c = printable_apart
