use Rattle.std.proofs.Common.{◌≡◌, ◌+◌, ◌≤◌, length}
use Rattle.hs_lex.specs.Lexicon.{nested_len}
use Rattle.hs_lex.specs.Literals.{more_by}
use Rattle.hs_lex.proofs.comment.nested.Given as goal

abbrev pub invariant-levels : goal.invariant-levels
invariant-levels l = record {
  same : nested_len 1 l.fn.bytes ≡ more_by l.len (nested_len l.depth l.rest);
  left : l.len + length l.rest ≡ length l.fn.bytes;
  deep : l.depth ≤ l.len + 1;
}

abbrev pub decreases-levels : goal.decreases-levels
decreases-levels l = length l.rest
