-- Fields, heads and lists.
use Rattle.std.specs.Prelude.{ℕ, Bool, Option, Some, None, List, [], ◌∷◌, length, take, drop, nat_lt, ◌==◌, not}
use Rattle.std.specs.Prelude.{if◌then◌else◌}
use Rattle.std.specs.List.{prefix_len, filter, slice_split}
use Rattle.std.specs.Str.{str_eq_ignore_ascii_case}
use Rattle.cabal_text.specs.Characters.{is_space, is_field_char, is_gap}
use Rattle.cabal_text.specs.Lines.{unindented}

-- the name and what a colon has after it
abbrev pub after_colon : List ℕ → List ℕ → Option (List ℕ × List ℕ)
after_colon name [] = None
after_colon name (b ∷ bs) = if b == 58 then Some (name, bs) else None

-- the name and the value of a field: a name, spaces or none, a colon and the value
unfoldable pub field_of : List ℕ → Option (List ℕ × List ℕ)
field_of text =
    if nat_lt 0 (prefix_len is_field_char text)
    then after_colon (take (prefix_len is_field_char text) text)
    (unindented (drop (prefix_len is_field_char text) text))
    else None

-- the word up to the first space
unfoldable pub first_word : List ℕ → List ℕ
first_word text = take (prefix_len (λ b. not (is_space b)) text) text

-- the word, in any case
unfoldable pub is_word : List ℕ → List ℕ → Bool
is_word text word = str_eq_ignore_ascii_case text word

-- the items between spaces and commas
unfoldable pub items_of : List ℕ → List (List ℕ)
items_of text = filter (λ item. nat_lt 0 (length item)) (slice_split is_gap text)
