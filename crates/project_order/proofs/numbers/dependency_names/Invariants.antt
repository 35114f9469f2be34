use Rattle.std.proofs.Common.{◌≡◌, ◌++◌, drop}
use Rattle.std.specs.List.{flat_map}
use Rattle.project_order.proofs.numbers.dependency_names.Given as goal

abbrev pub invariant-loop-component : goal.invariant-loop-component
invariant-loop-component l =
    l.names ++ flat_map (λ c. c.deps) (drop l.component-index l.components) ≡ flat_map (λ c. c.deps) l.components
