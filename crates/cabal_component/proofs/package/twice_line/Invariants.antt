use Rattle.std.proofs.Common.{◌≡◌, List, ℕ, take, drop, map}
use Rattle.std.specs.HashSet.{contains}
use Rattle.std.specs.Str.{bytes_eq}
use Rattle.cabal_text.specs.Least.{least_of, sooner}
use Rattle.bp_base.specs.Lists.{is_among}
use Rattle.cabal_component.specs.Package.{twice_after, twice_lines}
use Rattle.cabal_component.proofs.package.twice_line.Given as goal

abbrev pub invariant-loop-place : goal.invariant-loop-place
invariant-loop-place l =
    (sooner l.least (least_of (twice_after (map (λ p. p.name) (take l.place-index l.places))
    (drop l.place-index l.places))) ≡ least_of (twice_lines l.places))
    × ((q : List ℕ) → contains bytes_eq l.seen q ≡ is_among q (map (λ p. p.name) (take l.place-index l.places)))
