use Rattle.std.proofs.Common.{◌≡◌, ◌+◌, ◌≤◌, drop}
use Rattle.cabal_text.specs.Lead.{item_len}
use Rattle.cabal_text.proofs.tokens.item_len.Given as goal

abbrev pub invariant-loop-i : goal.invariant-loop-i
invariant-loop-i l = (l.i + item_len l.brackets l.depth (drop l.i l.tokens) ≡ item_len l.brackets 0 l.tokens)
    × (l.depth ≤ l.i)
