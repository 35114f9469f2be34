use Rattle.std.proofs.Common.{◌≡◌, ◌++◌, length}
use Rattle.std.proofs.Common.{[]}
use Rattle.cabal_stanzas.specs.Project.{project_files, project_refused}
use Rattle.cabal_text.specs.Lines.{deeper_than}
use Rattle.cabal_stanzas.proofs.project.read_blocks.Given as goal

abbrev pub invariant-loop-rest : goal.invariant-loop-rest
invariant-loop-rest l = (project_refused l.rest ≡ project_refused l.lines)
    × (l.files ++ project_files l.rest ≡ project_files l.lines) × (deeper_than 0 l.rest ≡ [])

abbrev pub decreases-loop-rest : goal.decreases-loop-rest
decreases-loop-rest l = length l.rest
