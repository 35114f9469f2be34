-- Heads of stanzas.
use Rattle.std.proofs.Common.{ℕ, suc, zero, ◌≤◌, List, [], ◌∷◌, length, take, arith}
use Rattle.cabal_text.specs.Fields.{first_word}

take-within : (n : ℕ) (xs : List ℕ) → length (take n xs) ≤ length xs
take-within zero xs = omega arith
take-within (suc n) [] = omega arith
take-within (suc n) (x ∷ xs) = let h = take-within n xs in omega (arith, h)

-- the first word is no longer than its line
pub first_word_within : (text : List ℕ) → length (first_word text) ≤ length text
unfolding first_word
first_word_within text = take-within _ text
