use Rattle.std.proofs.Common.{◌≡◌, ◌≤◌, ◌+◌, Some, List, drop}
use Rattle.bp_edges.specs.declared.files.File.{File}
use Rattle.bp_checks.specs.Check.{Through}
use Rattle.project_sources.specs.Sources.{source_total}
use Rattle.project_sources.proofs.SourceLemmas.{one_source}
use Rattle.project_sources.proofs.sources.read_sources.Given as goal

abbrev pub invariant-loop-each : goal.invariant-loop-each
invariant-loop-each g l =
    ((files : List File) → g.T.Tree.files l.fn.tree ≡ Some files
    → Through (one_source files l.fn.seen l.component) l.wanted l.all (drop l.each-index l.wanted))
    × (g.T.Tree.files l.tree ≡ g.T.Tree.files l.fn.tree) × (g.T.Tree.faults l.tree ≡ g.T.Tree.faults l.fn.tree)
    × (l.read ≡ l.fn.seen + source_total l.all) × (l.fn.seen ≤ 33554432 → l.read ≤ 33554432)
