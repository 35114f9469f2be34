use Rattle.std.proofs.Common.{◌≡◌, ◌+◌, drop}
use Rattle.project_sources.specs.Sources.{source_total}
use Rattle.project_sources.proofs.sources.source_bytes.Given as goal

abbrev pub invariant-loop-source : goal.invariant-loop-source
invariant-loop-source l = l.bytes + source_total (drop l.source-index l.sources) ≡ source_total l.sources
