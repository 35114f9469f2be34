use Rattle.std.proofs.Common.{◌+◌, ◌*◌, length}
use Rattle.hs_readers.proofs.patterns.+patterns.Given as goal

abbrev pub decreases-read_apat : goal.decreases-read_apat
decreases-read_apat l = 9 * length l.tokens.now + 0

abbrev pub decreases-read_apats-read_chain : goal.decreases-read_apats-read_chain
decreases-read_apats-read_chain l = 9 * length l.here.now + 1

abbrev pub decreases-read_apats : goal.decreases-read_apats
decreases-read_apats l = 9 * length l.tokens.now + 1

abbrev pub decreases-read_as : goal.decreases-read_as
decreases-read_as l = 9 * length l.tokens.now + 1

abbrev pub decreases-read_lazy : goal.decreases-read_lazy
decreases-read_lazy l = 9 * length l.tokens.now + 1

abbrev pub decreases-read_lpat : goal.decreases-read_lpat
decreases-read_lpat l = 9 * length l.tokens.now + 2

abbrev pub decreases-read_operand : goal.decreases-read_operand
decreases-read_operand l = 9 * length l.tokens.now + 1

abbrev pub decreases-read_pat-read_chain : goal.decreases-read_pat-read_chain
decreases-read_pat-read_chain l = 9 * length l.here.now + 2

abbrev pub decreases-read_pat : goal.decreases-read_pat
decreases-read_pat l = 9 * length l.tokens.now + 3

abbrev pub decreases-read_part : goal.decreases-read_part
decreases-read_part l = 9 * length l.tokens.now + 0

abbrev pub decreases-read_pats-read_chain : goal.decreases-read_pats-read_chain
decreases-read_pats-read_chain l = 9 * length l.here.now + 1

abbrev pub decreases-read_pats : goal.decreases-read_pats
decreases-read_pats l = 9 * length l.tokens.now + 4

abbrev pub decreases-read_inside : goal.decreases-read_inside
decreases-read_inside l = 9 * length l.tokens.now + 5

abbrev pub decreases-read_bracket : goal.decreases-read_bracket
decreases-read_bracket l = 9 * length l.tokens.now + 5

abbrev pub decreases-read_paren : goal.decreases-read_paren
decreases-read_paren l = 9 * length l.tokens.now + 6
