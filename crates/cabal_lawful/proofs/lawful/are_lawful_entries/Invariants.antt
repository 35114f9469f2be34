use Rattle.std.proofs.Common.{◌≡◌, drop}
use Rattle.std.specs.HashSet.{contains}
use Rattle.std.specs.Str.{bytes_eq}
use Rattle.cabal_lawful.specs.Tested.{are_lawful_entries}
use Rattle.cabal_lawful.proofs.lawful.are_lawful_entries.Given as goal

abbrev pub invariant-loop-mixin : goal.invariant-loop-mixin
invariant-loop-mixin l =
    are_lawful_entries (contains bytes_eq l.deps) (drop l.mixin-index l.mixins) ≡ are_lawful_entries
    (contains bytes_eq l.deps) l.mixins
