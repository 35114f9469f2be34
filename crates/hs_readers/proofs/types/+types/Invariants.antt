use Rattle.std.proofs.Common.{◌+◌, ◌*◌, length}
use Rattle.hs_readers.proofs.types.+types.Given as goal

abbrev pub decreases-read_atype : goal.decreases-read_atype
decreases-read_atype l = 9 * length l.tokens.now

abbrev pub decreases-read_btype-read_chain : goal.decreases-read_btype-read_chain
decreases-read_btype-read_chain l = 9 * length l.here.now + 1

abbrev pub decreases-read_btype : goal.decreases-read_btype
decreases-read_btype l = 9 * length l.tokens.now + 1

abbrev pub decreases-read_arrow : goal.decreases-read_arrow
decreases-read_arrow l = 9 * length l.tokens.now

abbrev pub decreases-read_type-read_chain : goal.decreases-read_type-read_chain
decreases-read_type-read_chain l = 9 * length l.here.now + 1

abbrev pub decreases-read_type : goal.decreases-read_type
decreases-read_type l = 9 * length l.tokens.now + 2

abbrev pub decreases-read_part : goal.decreases-read_part
decreases-read_part l = 9 * length l.tokens.now

abbrev pub decreases-read_parts-read_chain : goal.decreases-read_parts-read_chain
decreases-read_parts-read_chain l = 9 * length l.here.now + 1

abbrev pub decreases-read_parts : goal.decreases-read_parts
decreases-read_parts l = 9 * length l.tokens.now + 3

abbrev pub decreases-read_bracket : goal.decreases-read_bracket
decreases-read_bracket l = 9 * length l.tokens.now + 4

abbrev pub decreases-read_paren : goal.decreases-read_paren
decreases-read_paren l = 9 * length l.tokens.now + 4
