use Rattle.std.proofs.Common.{◌≡◌, length}
use Rattle.cabal_stanzas.specs.Folder.{is_address}
use Rattle.cabal_stanzas.proofs.folder.is_address.Given as goal

abbrev pub invariant-loop-rest : goal.invariant-loop-rest
invariant-loop-rest l = is_address l.rest ≡ is_address l.item

abbrev pub decreases-loop-rest : goal.decreases-loop-rest
decreases-loop-rest l = length l.rest
