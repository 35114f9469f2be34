use Rattle.std.proofs.Common.{◌≡◌, ◌++◌, drop, map}
use Rattle.cabal_component.proofs.entries.new_names.Given as goal

abbrev pub invariant-loop-rename : goal.invariant-loop-rename
invariant-loop-rename l = l.names ++ map (λ r. r.to) (drop l.rename-index l.renames) ≡ map (λ r. r.to) l.renames
