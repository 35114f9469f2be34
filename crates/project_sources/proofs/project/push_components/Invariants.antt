use Rattle.std.proofs.Common.{◌≡◌, ◌++◌, drop}
use Rattle.project_sources.proofs.project.push_components.Given as goal

abbrev pub invariant-loop-component : goal.invariant-loop-component
invariant-loop-component l = l.all ++ drop l.component-index l.components ≡ l.initial.all ++ l.components
