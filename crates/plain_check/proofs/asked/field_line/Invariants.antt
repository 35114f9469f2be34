use Rattle.std.proofs.Common.{◌≡◌, drop}
use Rattle.cabal_text.specs.Least.{least_of, sooner}
use Rattle.plain_check.specs.Asked.{asking_fields}
use Rattle.plain_check.proofs.asked.field_line.Given as goal

abbrev pub invariant-loop-given : goal.invariant-loop-given
invariant-loop-given l =
    sooner l.least (least_of (asking_fields l.component (drop l.given-index l.givens)))
    ≡ least_of (asking_fields l.component l.givens)
