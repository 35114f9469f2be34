use Rattle.std.proofs.Common.{◌≡◌, ◌<◌, ◌∙◌, sym, length, arith, max}
use Rattle.std.specs.List.{prefix_len}
use Rattle.std.proofs.lemmas.Grind.{common_steps}
use Rattle.cabal_text.specs.Tokens.{is_word_char}
use Rattle.cabal_text.proofs.WordyLemmas.{token_next}
use Rattle.cabal_text.proofs.tokens.next_token.Goals as goal

pub returns-clause-token : goal.returns-clause-token
returns-clause-token c =
    let some : 0 < length c.skip_blanks-rest.result.now = grind (arith, common_steps) in
    let count : c.max.result ≡ max (prefix_len is_word_char c.skip_blanks-rest.result.now) 1 =
    rw c.word_len.ensures.value at c.max.ensures in
    sym c.skip_blanks-rest.ensures.same
    ∙ rw (c.split_at.ensures.front, c.split_at.ensures.back)
    (token_next c.skip_blanks-rest.result.now c.max.result some c.skip_blanks-rest.ensures.none count)
