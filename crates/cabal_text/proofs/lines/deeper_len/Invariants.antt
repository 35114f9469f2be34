use Rattle.std.proofs.Common.{◌≡◌, ◌+◌, drop, nat_lt}
use Rattle.std.specs.List.{prefix_len}
use Rattle.cabal_text.proofs.lines.deeper_len.Given as goal

abbrev pub invariant-loop-i : goal.invariant-loop-i
invariant-loop-i l = l.i + prefix_len (λ x. nat_lt l.indent x.indent) (drop l.i l.lines) ≡ prefix_len
    (λ x. nat_lt l.indent x.indent) l.lines
