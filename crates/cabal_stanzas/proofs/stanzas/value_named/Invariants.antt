use Rattle.std.proofs.Common.{◌≡◌, length}
use Rattle.cabal_stanzas.specs.Stanzas.{value_named}
use Rattle.cabal_stanzas.proofs.stanzas.value_named.Given as goal

abbrev pub invariant-loop-rest : goal.invariant-loop-rest
invariant-loop-rest l = value_named l.name l.rest ≡ value_named l.name l.fields

abbrev pub decreases-loop-rest : goal.decreases-loop-rest
decreases-loop-rest l = length l.rest
