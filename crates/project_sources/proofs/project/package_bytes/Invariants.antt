use Rattle.std.proofs.Common.{◌≡◌, ◌+◌, drop}
use Rattle.project_sources.specs.Project.{total}
use Rattle.project_sources.proofs.project.package_bytes.Given as goal

abbrev pub invariant-loop-package : goal.invariant-loop-package
invariant-loop-package l = l.bytes + total (drop l.package-index l.packages) ≡ total l.packages
