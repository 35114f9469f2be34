-- Numbers (Haskell 2010 Report, section 2.5).
use Rattle.std.specs.Prelude.{ℕ, ◌+◌, ◌-◌, ◌*◌, Bool, true, false, not, ◌&&◌, ◌||◌, ◌==◌, nat_le, List, [], ◌∷◌, drop}
use Rattle.std.specs.Prelude.{Option, Some, None, if◌then◌else◌}
use Rattle.std.specs.List.{fold}
use Rattle.hs_tokens.specs.declared.token.TokenKind.TheVariants as t
use Rattle.hs_lex.specs.declared.class.Class.TheVariants as c
use Rattle.hs_lex.specs.declared.kind.Kind.{Kind}
use Rattle.hs_lex.specs.declared.kind.Kind.TheVariants as k
use Rattle.hs_lex.specs.declared.kind.Form.{Form}
use Rattle.hs_lex.specs.declared.kind.Form.TheVariants as f
use Rattle.hs_lex.specs.Classes.{is_in, all, is_empty}

abbrev pub only : {A : Type 0} → Bool → A → Option A
only true x = Some x
only false x = None

-- a digit's value
abbrev pub digit_of : ℕ → ℕ
digit_of b = if nat_le b 57 then b - 48 else (if nat_le b 70 then b - 55 else b - 87)

-- one digit more
abbrev pub one_more : ℕ → ℕ → ℕ → ℕ
one_more base value b = value * base + digit_of b

-- the value of digits
abbrev pub value_of : ℕ → List ℕ → ℕ
value_of base digits = fold (one_more base) 0 digits

-- a digit, and only such
abbrev pub is_run : (ℕ → Bool) → List ℕ → Bool
is_run class bs = not (is_empty bs) && all class bs

abbrev pub run_as : (ℕ → Bool) → Form → List ℕ → Option Form
run_as class form bs = only (is_run class bs) form

abbrev pub is_hexadecimal_letter : ℕ → Bool
is_hexadecimal_letter b = b == 120 || b == 88

abbrev pub is_octal_letter : ℕ → Bool
is_octal_letter b = b == 111 || b == 79

abbrev pub is_exponent_letter : ℕ → Bool
is_exponent_letter b = b == 101 || b == 69

abbrev pub is_sign : ℕ → Bool
is_sign b = b == 43 || b == 45

-- behind the letter of an exponent
abbrev pub exponent : List ℕ → Option Form
exponent [] = None
exponent (b ∷ bs) = if is_sign b then run_as (is_in c.Digit) f.Floating bs else run_as (is_in c.Digit) f.Floating
    (b ∷ bs)

-- behind the dot of a number; whether a digit stands behind it already
abbrev pub fraction : Bool → List ℕ → Option Form
fraction false [] = None
fraction true [] = Some f.Floating
fraction some (b ∷ bs) = if is_in c.Digit b then fraction true bs else
    (if some && is_exponent_letter b then exponent bs else None)

-- behind a digit of a decimal number
abbrev pub decimal : List ℕ → Option Form
decimal [] = Some f.Decimal
decimal (b ∷ bs) = if is_in c.Digit b then decimal bs else
    (if b == 46 then fraction false bs else (if is_exponent_letter b then exponent bs else None))

-- behind a first 0
abbrev pub behind_zero : List ℕ → Option Form
behind_zero [] = Some f.Decimal
behind_zero (b ∷ bs) =
    if is_hexadecimal_letter b then run_as (is_in c.Hexadecimal) f.Hexadecimal bs
    else (if is_octal_letter b then run_as (is_in c.Octal) f.Octal bs else decimal (b ∷ bs))

-- behind a first digit
abbrev pub numeral : ℕ → List ℕ → Option Form
numeral b bs = if b == 48 then behind_zero bs else decimal bs

-- an integer of these digits: at most the greatest of signed 64 bits
abbrev pub integer : ℕ → List ℕ → Kind
integer base digits = if nat_le (value_of base digits) 9223372036854775807 then k.Token t.Integer else k.Broken

-- what a number of this form is
abbrev pub number_kind : List ℕ → Form → Kind
number_kind w f.Decimal = integer 10 w
number_kind w f.Octal = integer 8 (drop 2 w)
number_kind w f.Hexadecimal = integer 16 (drop 2 w)
number_kind w f.Floating = k.LeftOut
