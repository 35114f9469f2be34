use Rattle.std.proofs.Common.{◌≡◌, ◌+◌, length}
use Rattle.hs_lex.specs.Literals.{string_len, more_by}
use Rattle.hs_lex.proofs.literal.string.Given as goal

abbrev pub invariant-items : goal.invariant-items
invariant-items l = record {
  same : string_len 0 l.fn.bytes ≡ more_by l.len (string_len 0 l.left);
  room : l.len + length l.left ≡ length l.fn.bytes;
}

abbrev pub decreases-items : goal.decreases-items
decreases-items l = length l.left
