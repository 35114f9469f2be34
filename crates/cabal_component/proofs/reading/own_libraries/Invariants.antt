use Rattle.std.proofs.Common.{◌≡◌, ◌++◌, drop}
use Rattle.cabal_component.specs.Reading.{own_libraries}
use Rattle.cabal_component.proofs.reading.own_libraries.Given as goal

abbrev pub invariant-loop-line : goal.invariant-loop-line
invariant-loop-line l = l.own ++ own_libraries (drop l.line-index l.lines) ≡ own_libraries l.lines
