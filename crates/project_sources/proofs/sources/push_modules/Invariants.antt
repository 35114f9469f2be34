use Rattle.std.proofs.Common.{◌≡◌, ◌++◌, drop, map}
use Rattle.project_sources.specs.Sources.{module_file}
use Rattle.project_sources.proofs.sources.push_modules.Given as goal

abbrev pub invariant-loop-name : goal.invariant-loop-name
invariant-loop-name l = l.all ++ map module_file (drop l.name-index l.names) ≡ l.initial.all ++ map module_file l.names
