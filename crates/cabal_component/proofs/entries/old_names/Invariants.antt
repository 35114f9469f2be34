use Rattle.std.proofs.Common.{◌≡◌, ◌++◌, drop, map}
use Rattle.cabal_component.proofs.entries.old_names.Given as goal

abbrev pub invariant-loop-rename : goal.invariant-loop-rename
invariant-loop-rename l = l.names ++ map (λ r. r.from) (drop l.rename-index l.renames) ≡ map (λ r. r.from) l.renames
