use Rattle.std.proofs.Common.{◌≡◌, ◌++◌, drop}
use Rattle.project_order.specs.Order.{names_of}
use Rattle.project_order.proofs.numbers.component_names.Given as goal

abbrev pub invariant-loop-component : goal.invariant-loop-component
invariant-loop-component l = l.names ++ names_of (drop l.component-index l.components) ≡ names_of l.components
