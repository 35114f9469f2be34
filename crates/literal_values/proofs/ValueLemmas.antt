-- Digits, and strings item by item.
use Rattle.std.proofs.Common.{◌≡◌, ℕ, zero, suc, ◌≤◌, Bool, true, false, List, [], ◌∷◌, ◌++◌, refl, sym, ap, ◌∙◌, drop}
use Rattle.std.proofs.Common.{arith, append_assoc}
use Rattle.std.specs.Prelude.{nat_le, if◌then◌else◌, ◌==◌}
use Rattle.std.proofs.lemmas.Bool.Decides.{nat_tests}
use Rattle.literal_values.specs.declared.character.Item.{Item}
use Rattle.literal_values.specs.Values.{capped, code_or_none, string_codes, string_item}

-- a number that is within the limit, and one that is not
pub within : (limit n : ℕ) → n ≤ limit → n ≡ capped limit n
within limit n le = go (nat_le n limit) refl
  where
    go : (t : Bool) → nat_le n limit ≡ t → n ≡ (if t then n else limit)
    go true is = refl
    go false is = absurd (grind (arith, nat_tests))

pub exceeded : (limit n : ℕ) → false ≡ nat_le n limit → limit ≡ capped limit n
exceeded limit n e = rw (sym e) refl

-- what is left of an item is passed
pub past_item : (n : ℕ) (bs : List ℕ) → string_codes n bs ≡ string_codes 0 (drop n bs)
past_item zero bs = refl
past_item (suc n) [] = refl
past_item (suc n) (b ∷ bs) = past_item n bs

not_closing : (b : ℕ) → (b ≡ 34 → ⊥) → (b == 34) ≡ false
not_closing b h = grind (arith, nat_tests)

-- one more item
pub item_read : (codes left rest behind whole new : List ℕ) (b : ℕ) (item : Item) → left ≡ b ∷ rest
    → (b ≡ 34 → ⊥) → item ≡ string_item b rest → new ≡ codes ++ code_or_none item.code → behind ≡ drop item.len rest
    → codes ++ string_codes 0 left ≡ whole → new ++ string_codes 0 behind ≡ whole
item_read codes left rest behind whole new b item at unclosed read more past is =
    rw (more, past, read) (append_assoc codes (code_or_none (string_item b rest).code)
    (string_codes 0 (drop (string_item b rest).len rest))
    ∙ ap (λ l. codes ++ (code_or_none (string_item b rest).code ++ l)) (sym (past_item (string_item b rest).len rest))
    ∙ ap (λ (t : Bool). codes ++ (if t then [] else code_or_none (string_item b rest).code
    ++ string_codes (string_item b rest).len rest)) (sym (not_closing b unclosed))
    ∙ ap (λ l. codes ++ string_codes 0 l) (sym at) ∙ is)
