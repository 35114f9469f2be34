use Rattle.std.proofs.Common.{length}
use Rattle.hs_headers.proofs.ListLemmas.{Reading}
use Rattle.hs_headers.proofs.listed.read_some.Given as goal

abbrev pub invariant-parts : goal.invariant-parts
invariant-parts g l = Reading g.P.Listed.element l.tokens l.parts l.here

abbrev pub decreases-parts : goal.decreases-parts
decreases-parts g l = length l.here
