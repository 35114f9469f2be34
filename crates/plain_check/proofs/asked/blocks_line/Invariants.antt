use Rattle.std.proofs.Common.{◌≡◌, length}
use Rattle.cabal_text.specs.Least.{least_of, sooner}
use Rattle.plain_check.specs.Asked.{asking_blocks}
use Rattle.plain_check.proofs.asked.blocks_line.Given as goal

abbrev pub invariant-loop-rest : goal.invariant-loop-rest
invariant-loop-rest l =
    sooner l.least (least_of (asking_blocks l.component l.owner l.rest))
    ≡ least_of (asking_blocks l.component l.owner l.lines)

abbrev pub decreases-loop-rest : goal.decreases-loop-rest
decreases-loop-rest l = length l.rest
