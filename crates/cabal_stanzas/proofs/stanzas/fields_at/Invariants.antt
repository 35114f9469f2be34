use Rattle.std.proofs.Common.{◌≡◌, ◌++◌, length}
use Rattle.cabal_stanzas.specs.Stanzas.{fields_at}
use Rattle.cabal_stanzas.proofs.stanzas.fields_at.Given as goal

abbrev pub invariant-loop-rest : goal.invariant-loop-rest
invariant-loop-rest l = l.fields.items ++ fields_at l.indent l.rest ≡ fields_at l.indent l.lines

abbrev pub decreases-loop-rest : goal.decreases-loop-rest
decreases-loop-rest l = length l.rest
