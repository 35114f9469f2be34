use Rattle.std.proofs.Common.{◌+◌, ◌*◌, length}
use Rattle.hs_left_sides.proofs.functions.+functions.Given as goal

abbrev pub decreases-read_last : goal.decreases-read_last
decreases-read_last l = 9 * length l.tokens.now + 6

abbrev pub decreases-read_unnamed : goal.decreases-read_unnamed
decreases-read_unnamed l = 9 * length l.tokens.now + 7

abbrev pub decreases-read_function : goal.decreases-read_function
decreases-read_function l = 9 * length l.tokens.now + 8

abbrev pub decreases-read_bracketed : goal.decreases-read_bracketed
decreases-read_bracketed l = 9 * length l.tokens.now + 9

abbrev pub decreases-read_wrapped : goal.decreases-read_wrapped
decreases-read_wrapped l = 9 * length l.tokens.now + 10
