use Rattle.std.proofs.Common.{◌≡◌, ◌≤◌, ◌+◌, Some, List, drop}
use Rattle.bp_edges.specs.declared.files.File.{File}
use Rattle.bp_checks.specs.Check.{Through}
use Rattle.bp_checks.specs.Steps.{Spending}
use Rattle.backpack_run.specs.Given.{built_total}
use Rattle.backpack_run.specs.Counts.{CountsOne}
use Rattle.backpack_run.proofs.LoopLemmas.{each_component}
use Rattle.backpack_run.proofs.build.all_checked.Given as goal

abbrev pub invariant-loop-component : goal.invariant-loop-component
invariant-loop-component g l =
    ((files : List File) → g.T.Tree.files l.fn.tree ≡ Some files
    → Through (each_component files l.fn.seen) l.components l.all (drop l.component-index l.components))
    × (g.T.Tree.files l.tree ≡ g.T.Tree.files l.fn.tree) × (g.T.Tree.faults l.tree ≡ g.T.Tree.faults l.fn.tree)
    × (l.read ≡ l.fn.seen + built_total l.all) × (l.read ≤ 33554432)
    × Spending (λ (files : List File). g.T.Tree.files l.fn.tree ≡ Some files) CountsOne l.components
    (drop l.component-index l.components) l.fn.steps l.steps
