use Rattle.std.proofs.Common.{◌≡◌, ◌≤◌, ◌+◌, Some, List, drop}
use Rattle.bp_edges.specs.declared.files.File.{File}
use Rattle.bp_checks.specs.Check.{Through}
use Rattle.project_sources.specs.Project.{total}
use Rattle.project_sources.proofs.ProjectLemmas.{one_package}
use Rattle.project_sources.proofs.project.read_packages.Given as goal

abbrev pub invariant-loop-path : goal.invariant-loop-path
invariant-loop-path g l =
    ((files : List File) → g.T.Tree.files l.fn.tree ≡ Some files
    → Through (one_package files l.fn.seen) l.paths l.all (drop l.path-index l.paths))
    × (g.T.Tree.files l.tree ≡ g.T.Tree.files l.fn.tree) × (g.T.Tree.faults l.tree ≡ g.T.Tree.faults l.fn.tree)
    × (l.read ≡ l.fn.seen + total l.all) × (l.fn.seen ≤ 33554432 → l.read ≤ 33554432)
