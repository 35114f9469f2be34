use Rattle.std.proofs.Common.{◌≡◌, ◌++◌, drop}
use Rattle.hole_unify.specs.Reach.{number_edges}
use Rattle.hole_unify.proofs.reach.add_edges_of_fills.Given as goal

abbrev pub invariant-loop-each : goal.invariant-loop-each
invariant-loop-each l = l.edges.items ++ number_edges l.classes l.from l.fills
    (drop l.each-index l.fills) ≡ l.initial.edges.items ++ number_edges l.classes l.from l.fills l.fills
