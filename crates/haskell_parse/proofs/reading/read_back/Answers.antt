use Rattle.std.specs.Prelude.{Some, None}
use Rattle.haskell_parse.proofs.ParsedLemmas.{answer_is}
use Rattle.haskell_parse.proofs.reading.read_back.Goals as goal

pub returns : goal.returns
returns g c =
    λ tokens tree answer spelled is.
    answer_is (g.T.Readable.sort (Some 200)).form (g.T.Readable.sort None).form tokens tree
    (λ other same. g.met.T.Unambiguous.unique (Some 200) tokens tree other spelled same) spelled answer is
