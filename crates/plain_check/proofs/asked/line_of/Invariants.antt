use Rattle.std.proofs.Common.{◌≡◌, drop}
use Rattle.cabal_text.specs.Least.{least_of, sooner}
use Rattle.cabal_component.specs.Given.{lines_of}
use Rattle.plain_check.proofs.asked.line_of.Given as goal

abbrev pub invariant-loop-given : goal.invariant-loop-given
invariant-loop-given l =
    sooner l.least (least_of (lines_of l.field (drop l.given-index l.givens))) ≡ least_of (lines_of l.field l.givens)
