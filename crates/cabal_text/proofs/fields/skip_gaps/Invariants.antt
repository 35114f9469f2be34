use Rattle.std.proofs.Common.{◌≡◌, ◌≤◌, length}
use Rattle.cabal_text.specs.Fields.{items_of}
use Rattle.cabal_text.proofs.fields.skip_gaps.Given as goal

abbrev pub invariant-loop-rest : goal.invariant-loop-rest
invariant-loop-rest l = (items_of l.rest ≡ items_of l.text) × (length l.rest ≤ length l.text)

abbrev pub decreases-loop-rest : goal.decreases-loop-rest
decreases-loop-rest l = length l.rest
