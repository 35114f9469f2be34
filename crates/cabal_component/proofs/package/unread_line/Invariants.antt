use Rattle.std.proofs.Common.{◌≡◌, drop}
use Rattle.cabal_text.specs.Least.{least_of, sooner}
use Rattle.cabal_component.specs.Package.{unread_lines}
use Rattle.cabal_component.proofs.package.unread_line.Given as goal

abbrev pub invariant-loop-given : goal.invariant-loop-given
invariant-loop-given l = sooner l.least (least_of (unread_lines (drop l.given-index l.givens))) ≡ least_of
    (unread_lines l.givens)
