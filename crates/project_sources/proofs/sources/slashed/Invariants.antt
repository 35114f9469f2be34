use Rattle.std.proofs.Common.{◌≡◌, ◌++◌, drop}
use Rattle.project_sources.specs.Sources.{slashed}
use Rattle.project_sources.proofs.sources.slashed.Given as goal

abbrev pub invariant-loop-b : goal.invariant-loop-b
invariant-loop-b l = l.path.items ++ slashed (drop l.b-index l.name) ≡ slashed l.name
