use Rattle.flat_printable.proofs.PrintableLemmas.{printable_spelled}
use Rattle.flat_printable.proofs.laws.printable_texts_are_spelled.Goals as goal

pub returns : goal.returns
returns c = printable_spelled
