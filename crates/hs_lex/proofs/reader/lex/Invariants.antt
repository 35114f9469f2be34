use Rattle.std.proofs.Common.{length}
use Rattle.hs_lex.proofs.CoverLemmas.{SoFar}
use Rattle.hs_lex.proofs.reader.lex.Given as goal

abbrev pub invariant-pieces : goal.invariant-pieces
invariant-pieces l = SoFar l.fn.bytes l.left l.tokens l.offset l.column l.first

abbrev pub decreases-pieces : goal.decreases-pieces
decreases-pieces l = length l.left
