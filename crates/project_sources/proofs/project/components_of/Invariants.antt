use Rattle.std.proofs.Common.{◌≡◌, ◌++◌, drop}
use Rattle.project_sources.specs.Project.{components_of}
use Rattle.project_sources.proofs.project.components_of.Given as goal

abbrev pub invariant-loop-package : goal.invariant-loop-package
invariant-loop-package l = l.all ++ components_of (drop l.package-index l.packages) ≡ components_of l.packages
