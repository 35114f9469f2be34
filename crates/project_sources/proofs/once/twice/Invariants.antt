use Rattle.std.proofs.Common.{◌≡◌, [], List, ℕ, take, drop, map}
use Rattle.std.specs.HashSet.{contains}
use Rattle.std.specs.Str.{bytes_eq}
use Rattle.bp_base.specs.Lists.{is_among}
use Rattle.project_sources.specs.Once.{twice_after}
use Rattle.project_sources.proofs.once.twice.Given as goal

abbrev pub invariant-loop-component : goal.invariant-loop-component
invariant-loop-component l =
    (twice_after (map (λ c. c.name) (take l.component-index l.components)) (drop l.component-index l.components)
    ≡ twice_after [] l.components)
    × ((q : List ℕ) → contains bytes_eq l.seen q ≡ is_among q (map (λ c. c.name) (take l.component-index l.components)))
