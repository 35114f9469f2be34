-- Characters of a string, as they are met.
use Rattle.std.proofs.Common.{◌≡◌, ℕ, false, List, [], ◌∷◌, ◌++◌, refl, ap}
use Rattle.std.specs.Prelude.{not}
use Rattle.flat_lex.specs.Literals.{char_bytes, gap, string_bytes}
use Rattle.flat_text.specs.Texts.{is_shown, digit_gap, codes_behind}

behind_code : (code : ℕ) (rest : List ℕ) → codes_behind (not (is_shown code)) rest ≡ gap code rest ++ string_bytes rest
behind_code code [] = refl
behind_code code (next ∷ rest) =
    ap (λ w. digit_gap (not (is_shown code)) next ++ (char_bytes 34 next ++ w)) (behind_code next rest)

-- behind no number, the characters are those of the string
pub codes_first : (text : List ℕ) → codes_behind false text ≡ string_bytes text
codes_first [] = refl
codes_first (code ∷ rest) = ap (λ w. char_bytes 34 code ++ w) (behind_code code rest)
