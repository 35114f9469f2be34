use Rattle.std.proofs.Common.{◌+◌, ◌*◌, length}
use Rattle.hs_readers.proofs.kinds.+kinds.Given as goal

abbrev pub decreases-read_akind : goal.decreases-read_akind
decreases-read_akind l = 9 * length l.tokens.now

abbrev pub decreases-read_arrow : goal.decreases-read_arrow
decreases-read_arrow l = 9 * length l.tokens.now + 1

abbrev pub decreases-read_kind : goal.decreases-read_kind
decreases-read_kind l = 9 * length l.tokens.now + 8

abbrev pub decreases-read_kind-read_chain : goal.decreases-read_kind-read_chain
decreases-read_kind-read_chain l = 9 * length l.here.now + 2
