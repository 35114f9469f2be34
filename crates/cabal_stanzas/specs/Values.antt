-- Values of the fields of components (Cabal manual, "build-depends", "main-is").
use Rattle.std.specs.Prelude.{ℕ, Bool, true, false, Option, Some, None, List, [], ◌∷◌, length, take, drop, codes}
use Rattle.std.specs.Prelude.{nat_lt, ◌==◌, ◌||◌, ◌&&◌, not, if◌then◌else◌}
use Rattle.std.specs.List.{prefix_len, list_all, ends_with}
use Rattle.cabal_text.specs.declared.tokens.Brackets.TheVariants.{Curly}
use Rattle.cabal_text.specs.Tokens.{is_blank, tokens_of, items_at, without_comma, each_read}
use Rattle.cabal_text.specs.Names.{is_dependency}

-- how many characters of a word stand before a range: before the first of `<`, `>`, `=` and `^`
unfoldable pub is_range_char : ℕ → Bool
is_range_char b = (b == 60) || (b == 62) || (b == 61) || (b == 94)

abbrev pub front_len : List ℕ → ℕ
front_len word = prefix_len (λ b. not (is_range_char b)) word

-- the token begins a range
abbrev pub is_range : List ℕ → Bool
is_range [] = false
is_range (b ∷ bs) = is_range_char b || (b == 40) || (b == 45)

-- what stands behind a name is nothing or a range
abbrev pub may_follow : List (List ℕ) → Bool
may_follow [] = true
may_follow (token ∷ tokens) = is_range token

-- `p` or `p:s`, and then a range or none, which may begin right behind the name
abbrev pub ranged_name : List (List ℕ) → Option (List ℕ)
ranged_name [] = None
ranged_name (word ∷ rest) =
    if is_dependency (take (front_len word) word) && (nat_lt (front_len word) (length word) || may_follow rest)
    then Some (take (front_len word) word) else None

-- the dependencies that a value names
abbrev pub ranged_names : List ℕ → Option (List (List ℕ))
ranged_names value = each_read ranged_name (items_at Curly 0 (without_comma (tokens_of value)))

-- the text from its first character on that isn't white space
abbrev pub unblanked : List ℕ → List ℕ
unblanked text = drop (prefix_len is_blank text) text

-- how many characters of a text stand before white space
abbrev pub solid_len : List ℕ → ℕ
solid_len text = prefix_len (λ b. not (is_blank b)) text

-- the one word of a text, where it ends in `.hs`
abbrev pub source_in : List ℕ → Option (List ℕ)
source_in text =
    if ends_with ◌==◌ (take (solid_len text) text) (codes ".hs") && list_all is_blank (drop (solid_len text) text)
    then Some (take (solid_len text) text) else None

-- the name of a source file, and nothing else
abbrev pub source_name : List ℕ → Option (List ℕ)
source_name value = source_in (unblanked value)
