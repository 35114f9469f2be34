use Rattle.std.proofs.Common.{◌≡◌, ◌+◌, drop, not}
use Rattle.std.specs.List.{prefix_len}
use Rattle.std.specs.Prelude.{codes}
use Rattle.cabal_text.specs.Tokens.{is_text}
use Rattle.cabal_component.proofs.entries.close_len.Given as goal

abbrev pub invariant-loop-i : goal.invariant-loop-i
invariant-loop-i l = l.i + prefix_len (λ token. not (is_text token (codes ")"))) (drop l.i l.tokens) ≡ prefix_len
    (λ token. not (is_text token (codes ")"))) l.tokens
