use Rattle.std.proofs.Common.{◌≡◌, ◌++◌, drop}
use Rattle.cabal_stanzas.proofs.folder.copied_paths.Given as goal

abbrev pub invariant-loop-each : goal.invariant-loop-each
invariant-loop-each l = l.all ++ drop l.each-index l.each-items ≡ l.paths
