use Rattle.std.proofs.Common.{◌≡◌, ◌+◌, drop, not}
use Rattle.std.specs.List.{prefix_len}
use Rattle.cabal_text.specs.Characters.{is_space}
use Rattle.cabal_text.proofs.fields.first_word.Given as goal

abbrev pub invariant-loop-i : goal.invariant-loop-i
invariant-loop-i l = l.i + prefix_len (λ b. not (is_space b)) (drop l.i l.text) ≡ prefix_len
    (λ b. not (is_space b)) l.text
