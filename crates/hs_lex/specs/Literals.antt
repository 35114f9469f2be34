-- Characters and strings (Haskell 2010 Report, section 2.6).
use Rattle.std.specs.Prelude.{ℕ, zero, suc, ◌+◌, Bool, not, ◌&&◌, ◌||◌, ◌==◌, nat_le, nat_lt, List, [], ◌∷◌, length}
use Rattle.std.specs.Prelude.{take, drop, Option, Some, None, codes, if◌then◌else◌}
use Rattle.std.specs.List.{prefix_len}
use Rattle.std.specs.Str.{bytes_eq}
use Rattle.hs_lex.specs.declared.class.Class.TheVariants as c
use Rattle.hs_lex.specs.Classes.{from_to, is_in, begins}
use Rattle.hs_lex.specs.Numbers.{only, value_of}

-- so many more
abbrev pub more_by : ℕ → Option ℕ → Option ℕ
more_by n None = None
more_by n (Some m) = Some (n + m)

-- `\a` and its kin, without `\&`
abbrev pub is_char_escape : ℕ → Bool
is_char_escape b =
    from_to 97 98 b || (b == 102 || (b == 110 || (b == 114 ||
    (b == 116 || (b == 118 || (b == 92 || (b == 34 || b == 39)))))))

-- the ASCII names of three letters
unfoldable pub is_long_name : List ℕ → Bool
is_long_name w =
    bytes_eq w (codes "NUL") || (bytes_eq w (codes "SOH") ||
    (bytes_eq w (codes "STX") || (bytes_eq w (codes "ETX") || (bytes_eq w (codes "EOT")
    || (bytes_eq w (codes "ENQ") || (bytes_eq w (codes "ACK") ||
    (bytes_eq w (codes "BEL") || (bytes_eq w (codes "DLE") || bytes_eq w (codes "DC1")))))))))

unfoldable pub is_longer_name : List ℕ → Bool
is_longer_name w =
    bytes_eq w (codes "DC2") || (bytes_eq w (codes "DC3") ||
    (bytes_eq w (codes "DC4") || (bytes_eq w (codes "NAK") || (bytes_eq w (codes "SYN")
    || (bytes_eq w (codes "ETB") || (bytes_eq w (codes "CAN") ||
    (bytes_eq w (codes "SUB") || (bytes_eq w (codes "ESC") || bytes_eq w (codes "DEL")))))))))

-- those of two
unfoldable pub is_short_name : List ℕ → Bool
is_short_name w =
    bytes_eq w (codes "BS") || (bytes_eq w (codes "HT") ||
    (bytes_eq w (codes "LF") || (bytes_eq w (codes "VT") || (bytes_eq w (codes "FF")
    || (bytes_eq w (codes "CR") || (bytes_eq w (codes "SO") ||
    (bytes_eq w (codes "SI") || bytes_eq w (codes "EM"))))))))

unfoldable pub is_shorter_name : List ℕ → Bool
is_shorter_name w =
    bytes_eq w (codes "FS") || (bytes_eq w (codes "GS") ||
    (bytes_eq w (codes "RS") || (bytes_eq w (codes "US") || bytes_eq w (codes "SP"))))

-- the length of the longest ASCII name at the front
abbrev pub name_len : List ℕ → Option ℕ
name_len bs =
    if nat_le 3 (length bs) && (is_long_name (take 3 bs) || is_longer_name (take 3 bs)) then Some 3
    else (if nat_le 2 (length bs) && (is_short_name (take 2 bs) || is_shorter_name (take 2 bs)) then Some 2 else None)

-- The length of the number at the front: all digits that stand there, one at least, of a character's number at most.
abbrev pub code_len : ℕ → (ℕ → Bool) → List ℕ → Option ℕ
code_len base class bs =
    only (nat_lt 0 (prefix_len class bs) && nat_le (value_of base (take (prefix_len class bs) bs)) 1114111)
    (prefix_len class bs)

-- what stands behind `\^`
abbrev pub control_len : List ℕ → Option ℕ
control_len bs = only (begins (from_to 64 95) bs) 1

-- The length of what stands behind the backslash of an escape.
abbrev pub escape_len : List ℕ → Option ℕ
escape_len [] = None
escape_len (b ∷ bs) =
    if is_char_escape b then Some 1
    else (if is_in c.Digit b then code_len 10 (is_in c.Digit) (b ∷ bs)
    else (if b == 111 then more_by 1 (code_len 8 (is_in c.Octal) bs)
    else (if b == 120 then more_by 1 (code_len 16 (is_in c.Hexadecimal) bs)
    else (if b == 94 then more_by 1 (control_len bs) else name_len (b ∷ bs)))))

-- A gap behind its backslash: white space and a backslash.
abbrev pub gap_len : List ℕ → Option ℕ
gap_len bs = only (begins (λ b. b == 92) (drop (prefix_len (is_in c.White) bs) bs)) (prefix_len (is_in c.White) bs + 1)

-- The length of what stands behind a backslash in a string: `&`, a gap or an escape.
abbrev pub string_escape_len : List ℕ → Option ℕ
string_escape_len [] = None
string_escape_len (b ∷ bs) = if b == 38 then Some 1 else
    (if is_in c.White b then gap_len (b ∷ bs) else escape_len (b ∷ bs))

-- a byte that stands for itself: a space, a graphic character or one past ASCII
abbrev pub is_plain : ℕ → Bool
is_plain b = from_to 32 126 b || nat_le 128 b

-- the bytes of the item of a string behind its first byte
abbrev pub item_len : ℕ → List ℕ → Option ℕ
item_len b bs = if b == 92 then string_escape_len bs else only (is_plain b) 0

-- Behind the opening quote of a string, or what is left of an item and the string: how many bytes stand up to and with
-- the closing
-- quote, the first one that stands where an item could.
abbrev pub string_len : ℕ → List ℕ → Option ℕ
string_len skip [] = None
string_len (suc skip) (b ∷ bs) = more_by 1 (string_len skip bs)
string_len zero (b ∷ bs) =
    if b == 34 then Some 1 else elim (item_len b bs) [ None ↦ None | Some n ↦ more_by 1 (string_len n bs) ]

-- the bytes of a character that stands for itself, behind its first byte
abbrev pub character_len : ℕ → List ℕ → Option ℕ
character_len b bs = if nat_le 192 b then Some (prefix_len (is_in c.Continuation) bs) else only
    (from_to 32 126 b && not (b == 39)) 0

-- one character behind the opening quote of a character literal, behind its first byte
abbrev pub literal_len : ℕ → List ℕ → Option ℕ
literal_len b bs = if b == 92 then escape_len bs else character_len b bs

-- a closing quote behind so many bytes
abbrev pub closed_behind : List ℕ → Option ℕ → Option ℕ
closed_behind bs None = None
closed_behind bs (Some n) = only (begins (λ b. b == 39) (drop n bs)) (n + 2)

-- Behind the opening quote of a character: the length of one character and the closing quote.
abbrev pub char_len : List ℕ → Option ℕ
char_len [] = None
char_len (b ∷ bs) = closed_behind bs (literal_len b bs)
