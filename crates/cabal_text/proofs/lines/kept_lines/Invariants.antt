use Rattle.std.proofs.Common.{◌≡◌, ◌+◌, ◌≤◌, ◌++◌, length}
use Rattle.cabal_text.specs.Lines.{kept_lines, kept_from}
use Rattle.std.specs.Str.Lines.{lines}
use Rattle.cabal_text.proofs.lines.kept_lines.Given as goal

abbrev pub invariant-loop-rest : goal.invariant-loop-rest
invariant-loop-rest l = (l.found.items ++ kept_from (l.number + 1) (lines l.rest) ≡ kept_lines l.bytes)
    × (l.number + length l.rest ≤ length l.bytes)

abbrev pub decreases-loop-rest : goal.decreases-loop-rest
decreases-loop-rest l = length l.rest
