use Rattle.std.proofs.Common.{◌≡◌, Some, List, drop}
use Rattle.bp_edges.specs.declared.files.File.{File}
use Rattle.project_sources.specs.Sources.{first_there}
use Rattle.project_sources.proofs.sources.first_there.Given as goal

abbrev pub invariant-loop-path : goal.invariant-loop-path
invariant-loop-path g l =
    ((files : List File) → g.T.Tree.files l.fn.tree ≡ Some files
    → first_there files (drop l.path-index l.paths) ≡ first_there files l.paths)
    × (g.T.Tree.files l.tree ≡ g.T.Tree.files l.fn.tree) × (g.T.Tree.faults l.tree ≡ g.T.Tree.faults l.fn.tree)
