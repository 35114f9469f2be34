-- What literals stand for (Haskell 2010 Report, sections 2.5 and 2.6).
use Rattle.std.specs.Prelude.{ℕ, zero, suc, ◌+◌, ◌-◌, ◌*◌, ◌&&◌, ◌==◌, nat_le, nat_lt, List, [], ◌∷◌, ◌++◌, take, drop}
use Rattle.std.specs.Prelude.{Option, Some, None, unwrap_or, slice_get, if◌then◌else◌}
use Rattle.std.specs.List.{prefix_len}
use Rattle.bp_base.specs.Texts.{Text}
use Rattle.hs_lex.specs.declared.class.Class.TheVariants as c
use Rattle.hs_lex.specs.Classes.{from_to, is_in}
use Rattle.hs_lex.specs.Numbers.{value_of, is_hexadecimal_letter, is_octal_letter}
use Rattle.hs_scopes.specs.Patterns.{Literals}
use Rattle.literal_values.specs.declared.character.Item.{Item}
use Rattle.literal_values.specs.Names.{first_names, nothing}

-- a number, or the limit where it is more; the lexer lets no such literal through
abbrev pub capped : ℕ → ℕ → ℕ
capped limit n = if nat_le n limit then n else limit

-- ---- integers

abbrev pub written_value : ℕ → ℕ → List ℕ → ℕ
written_value b l bs =
    if b == 48 && is_octal_letter l then value_of 8 bs
    else (if b == 48 && is_hexadecimal_letter l then value_of 16 bs else value_of 10 (b ∷ l ∷ bs))

abbrev pub digits_value : Text → ℕ
digits_value [] = 0
digits_value (b ∷ []) = value_of 10 (b ∷ [])
digits_value (b ∷ l ∷ bs) = written_value b l bs

abbrev pub integer_value : Text → ℕ
integer_value text = capped 18446744073709551615 (digits_value text)

-- ---- characters past ASCII, in UTF-8

abbrev pub bits_or : Option ℕ → ℕ
bits_or None = 0
bits_or (Some b) = b - 128

abbrev pub six_bits : List ℕ → ℕ → ℕ
six_bits bs i = bits_or (slice_get bs i)

abbrev pub two_bytes : ℕ → List ℕ → ℕ
two_bytes b bs = (b - 192) * 64 + six_bits bs 0

abbrev pub three_bytes : ℕ → List ℕ → ℕ
three_bytes b bs = ((b - 224) * 64 + six_bits bs 0) * 64 + six_bits bs 1

abbrev pub four_bytes : ℕ → List ℕ → ℕ
four_bytes b bs = (((b - 240) * 64 + six_bits bs 0) * 64 + six_bits bs 1) * 64 + six_bits bs 2

-- a character that stands for itself, behind its first byte
abbrev pub character : ℕ → List ℕ → Item
character b bs =
    if nat_lt b 192 then record { code = Some b; len = 0 }
    else (if nat_lt b 224 then record { code = Some (two_bytes b bs); len = 1 }
    else (if nat_lt b 240 then record { code = Some (three_bytes b bs); len = 2 }
    else record { code = Some (four_bytes b bs); len = 3 }))

-- ---- escapes

-- the character of so many digits at the front
abbrev pub numbered : ℕ → ℕ → List ℕ → Item
numbered base n bs = record { code = Some (capped 4294967295 (value_of base (take n bs))); len = n }

abbrev pub one_longer : Item → Item
one_longer i = record { code = i.code; len = suc i.len }

-- `\^A` and its kin
abbrev pub control : List ℕ → Item
control [] = nothing
control (b ∷ bs) = record { code = Some (b - 64); len = 1 }

-- `\a` and its kin; a mark is itself
abbrev pub letter : ℕ → ℕ
letter b =
    if b == 97 then 7
    else (if b == 98 then 8
    else (if b == 116 then 9
    else (if b == 110 then 10 else (if b == 118 then 11 else (if b == 102 then 12 else (if b == 114 then 13 else b))))))

-- what stands behind the backslash of an escape
abbrev pub escape : List ℕ → Item
escape [] = nothing
escape (b ∷ bs) =
    if is_in c.Digit b then numbered 10 (prefix_len (is_in c.Digit) (b ∷ bs)) (b ∷ bs)
    else (if b == 111 then one_longer (numbered 8 (prefix_len (is_in c.Octal) bs) bs)
    else (if b == 120 then one_longer (numbered 16 (prefix_len (is_in c.Hexadecimal) bs) bs)
    else (if b == 94 then one_longer (control bs)
    else (if from_to 65 90 b then first_names (b ∷ bs) else record { code = Some (letter b); len = 1 }))))

-- what stands behind a backslash in a string: `&` and a gap are no characters
abbrev pub string_escape : List ℕ → Item
string_escape [] = nothing
string_escape (b ∷ bs) =
    if b == 38 then record { code = None; len = 1 }
    else (if is_in c.White b then one_longer (record { code = None; len = prefix_len (is_in c.White) (b ∷ bs) })
    else escape (b ∷ bs))

abbrev pub character_item : ℕ → List ℕ → Item
character_item b bs = if b == 92 then escape bs else character b bs

abbrev pub string_item : ℕ → List ℕ → Item
string_item b bs = if b == 92 then string_escape bs else character b bs

-- ---- characters and strings between their quotes

abbrev pub first_character : List ℕ → ℕ
first_character [] = 0
first_character (b ∷ bs) = unwrap_or (character_item b bs).code 0

abbrev pub character_value : Text → ℕ
character_value text = first_character (drop 1 text)

abbrev pub code_or_none : Option ℕ → List ℕ
code_or_none None = []
code_or_none (Some n) = n ∷ []

-- the characters behind what is left of an item, up to the closing quote
abbrev pub string_codes : ℕ → List ℕ → List ℕ
string_codes skip [] = []
string_codes (suc skip) (b ∷ bs) = string_codes skip bs
string_codes zero (b ∷ bs) =
    if b == 34 then [] else code_or_none (string_item b bs).code ++ string_codes (string_item b bs).len bs

abbrev pub string_value : Text → List ℕ
string_value text = string_codes 0 (drop 1 text)

-- what the literals of a source stand for
abbrev pub source_literals : Literals
source_literals = record { integer = integer_value; character = character_value; string = string_value }
