use Rattle.std.proofs.Common.{◌≡◌, drop}
use Rattle.cabal_text.specs.Least.{least_of, sooner}
use Rattle.cabal_stanzas.specs.Stanzas.{odd_lines}
use Rattle.cabal_stanzas.proofs.stanzas.odd_line.Given as goal

abbrev pub invariant-loop-line : goal.invariant-loop-line
invariant-loop-line l = sooner l.least (least_of (odd_lines l.indent (drop l.line-index l.lines))) ≡ least_of
    (odd_lines l.indent l.lines)
