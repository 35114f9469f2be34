use Rattle.std.proofs.Common.{◌+◌, ◌*◌, length}
use Rattle.hs_nesting.proofs.nested.+nested.Given as goal

abbrev pub decreases-read_operand : goal.decreases-read_operand
decreases-read_operand l = 2 * length l.tokens.now + 1

abbrev pub decreases-read_decls : goal.decreases-read_decls
decreases-read_decls l = 2 * length l.tokens.now + 1

abbrev pub decreases-read_alts : goal.decreases-read_alts
decreases-read_alts l = 2 * length l.tokens.now + 1

abbrev pub decreases-read_alts-read_alt_block+arg4 : goal.decreases-read_alts-read_alt_block+arg4
decreases-read_alts-read_alt_block+arg4 l = 2 * length l.here.now + 2

abbrev pub decreases-read_alts-read_alt_block+arg5 : goal.decreases-read_alts-read_alt_block+arg5
decreases-read_alts-read_alt_block+arg5 l = 2 * length l.here.now + 2

abbrev pub decreases-read_decls-read_decl_block+arg4 : goal.decreases-read_decls-read_decl_block+arg4
decreases-read_decls-read_decl_block+arg4 l = 2 * length l.here.now + 2

abbrev pub decreases-read_decls-read_decl_block+arg5 : goal.decreases-read_decls-read_decl_block+arg5
decreases-read_decls-read_decl_block+arg5 l = 2 * length l.here.now + 2

abbrev pub decreases-read_operand-read_operand+arg4 : goal.decreases-read_operand-read_operand+arg4
decreases-read_operand-read_operand+arg4 l = 2 * length l.here.now + 2

abbrev pub decreases-read_operand-read_operand+arg5 : goal.decreases-read_operand-read_operand+arg5
decreases-read_operand-read_operand+arg5 l = 2 * length l.here.now + 2

abbrev pub decreases-read_operand-read_operand+arg6 : goal.decreases-read_operand-read_operand+arg6
decreases-read_operand-read_operand+arg6 l = 2 * length l.here.now + 2
