use Rattle.std.proofs.Common.{◌≡◌, length}
use Rattle.cabal_stanzas.specs.Folder.{behind_slash}
use Rattle.cabal_stanzas.proofs.folder.behind_slash.Given as goal

abbrev pub invariant-loop-rest : goal.invariant-loop-rest
invariant-loop-rest l = behind_slash l.behind l.rest ≡ behind_slash l.path l.path

abbrev pub decreases-loop-rest : goal.decreases-loop-rest
decreases-loop-rest l = length l.rest
