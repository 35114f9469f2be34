use Rattle.std.proofs.Common.{◌≡◌, ◌++◌, drop, map}
use Rattle.project_sources.specs.Sources.{signature_file}
use Rattle.project_sources.proofs.sources.push_signatures.Given as goal

abbrev pub invariant-loop-name : goal.invariant-loop-name
invariant-loop-name l =
    l.all ++ map signature_file (drop l.name-index l.names) ≡ l.initial.all ++ map signature_file l.names
