use Rattle.std.proofs.Common.{◌≡◌, length}
use Rattle.hs_lex.specs.Cover.{column_behind}
use Rattle.hs_lex.proofs.reader.column_past.Given as goal

abbrev pub invariant-bytes : goal.invariant-bytes
invariant-bytes l = column_behind l.at l.left ≡ column_behind l.fn.column l.fn.bytes

abbrev pub decreases-bytes : goal.decreases-bytes
decreases-bytes l = length l.left
