use Rattle.std.proofs.Common.{ℕ, ◌+◌, ◌*◌, ◌<◌, length}
use Rattle.hs_scopes.specs.Reads.{Going}
use Rattle.chain_readings.specs.Pieces.{pieces_at, tree_at}
use Rattle.chain_readings.proofs.reader.+read.Given as goal

abbrev pub decreases-read : goal.decreases-read
decreases-read l = 2 * length l.pieces.now + 1

abbrev pub decreases-read_head : goal.decreases-read_head
decreases-read_head l = 2 * length l.pieces.now

abbrev pub invariant-read-operators : goal.invariant-read-operators
invariant-read-operators l =
    Going l.outer (pieces_at l.fn.pieces) (tree_at l.left) (pieces_at l.rest) × (length l.rest < length l.fn.pieces)

abbrev pub decreases-read-operators : goal.decreases-read-operators
decreases-read-operators l = length l.rest
