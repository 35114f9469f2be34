use Rattle.std.proofs.Common.{◌≡◌, ◌++◌, ◌-◌, length, drop, map}
use Rattle.std.specs.Prelude.{reverse}
use Rattle.graph_walk.specs.Graph.{wanted}
use Rattle.graph_walk.specs.Walking.{enters}
use Rattle.graph_walk.proofs.walk.push_enters.Given as goal

abbrev pub invariant-loop-behind : goal.invariant-loop-behind
invariant-loop-behind l = reverse l.pending ≡ enters (map (wanted l.by) (drop (length l.numbers - l.behind) l.numbers))
    ++ reverse l.initial.pending
