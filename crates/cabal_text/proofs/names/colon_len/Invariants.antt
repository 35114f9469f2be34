use Rattle.std.proofs.Common.{◌≡◌, ◌+◌, drop}
use Rattle.bp_base.specs.Names.{colon_place}
use Rattle.cabal_text.proofs.names.colon_len.Given as goal

abbrev pub invariant-loop-i : goal.invariant-loop-i
invariant-loop-i l = l.i + colon_place (drop l.i l.text) ≡ colon_place l.text
