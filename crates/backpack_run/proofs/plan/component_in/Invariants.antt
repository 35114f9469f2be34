use Rattle.std.proofs.Common.{◌≡◌, drop}
use Rattle.backpack_run.specs.Given.{component_in}
use Rattle.backpack_run.proofs.plan.component_in.Given as goal

abbrev pub invariant-loop-component : goal.invariant-loop-component
invariant-loop-component l = component_in (drop l.component-index l.components) l.name ≡ component_in l.components l.name
