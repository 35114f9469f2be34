use Rattle.std.proofs.Common.{◌≡◌, length}
use Rattle.cabal_text.specs.Least.{least_of}
use Rattle.cabal_stanzas.specs.Heads.{refused_names}
use Rattle.cabal_stanzas.proofs.heads.name_line.Given as goal

abbrev pub invariant-loop-rest : goal.invariant-loop-rest
invariant-loop-rest l = least_of (refused_names l.rest) ≡ least_of (refused_names l.fields)

abbrev pub decreases-loop-rest : goal.decreases-loop-rest
decreases-loop-rest l = length l.rest
