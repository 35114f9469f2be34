use Rattle.std.proofs.Common.{◌≡◌, ◌++◌, length}
use Rattle.std.specs.HashSet.{contains}
use Rattle.std.specs.Str.{bytes_eq}
use Rattle.cabal_text.specs.Least.{least_of, sooner}
use Rattle.cabal_component.specs.Package.{blocks_refused}
use Rattle.cabal_component.specs.Reading.{components_in}
use Rattle.cabal_component.proofs.reading.described_in.Given as goal

abbrev pub invariant-loop-rest : goal.invariant-loop-rest
invariant-loop-rest l =
    (sooner l.refused (least_of (blocks_refused l.rest)) ≡ least_of (blocks_refused l.lines))
    × (l.components ++ components_in l.file l.owner (contains bytes_eq l.own) l.rest ≡
    components_in l.file l.owner (contains bytes_eq l.own) l.lines)

abbrev pub decreases-loop-rest : goal.decreases-loop-rest
decreases-loop-rest l = length l.rest
