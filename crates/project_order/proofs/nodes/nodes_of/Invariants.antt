use Rattle.std.proofs.Common.{◌≡◌, ◌++◌, drop}
use Rattle.project_order.specs.Numbers.{number_at, nodes_of}
use Rattle.project_order.proofs.nodes.nodes_of.Given as goal

abbrev pub invariant-loop-component : goal.invariant-loop-component
invariant-loop-component l =
    l.nodes ++ nodes_of (number_at l.table l.count) (drop l.component-index l.components) ≡ nodes_of
    (number_at l.table l.count) l.components
