-- Classes of bytes, and what begins with a byte (Haskell 2010 Report, section 2.2, in this project's profile).
use Rattle.std.specs.Prelude.{ℕ, Bool, true, false, not, ◌&&◌, ◌||◌, ◌==◌, nat_le, List, [], ◌∷◌, if◌then◌else◌}
use Rattle.hs_lex.specs.declared.class.Class.{Class}
use Rattle.hs_lex.specs.declared.class.Class.TheVariants as c
use Rattle.hs_lex.specs.declared.class.Start.{Start}
use Rattle.hs_lex.specs.declared.class.Start.TheVariants as s

abbrev pub from_to : ℕ → ℕ → ℕ → Bool
from_to low high b = nat_le low b && nat_le b high

-- The bytes of a class: digits, letters and what else stands in names, symbol characters, white space, line ends.
abbrev pub is_in : Class → ℕ → Bool
is_in c.Digit b = from_to 48 57 b
is_in c.Octal b = from_to 48 55 b
is_in c.Hexadecimal b = from_to 48 57 b || (from_to 65 70 b || from_to 97 102 b)
is_in c.Name b = from_to 97 122 b || (from_to 65 90 b || (from_to 48 57 b || (b == 95 || b == 39)))
is_in c.Symbol b = b == 33 || (from_to 35 38 b || (from_to 42 43 b ||
    (from_to 45 47 b || (b == 58 || (from_to 60 64 b || (b == 92 || (b == 94 || (b == 124 || b == 126))))))))
is_in c.Dash b = b == 45
is_in c.White b = b == 32 || from_to 9 13 b
is_in c.Ending b = b == 10 || from_to 12 13 b
is_in c.Line b = not (b == 10 || from_to 12 13 b)
is_in c.Continuation b = from_to 128 191 b

-- what begins with a byte
unfoldable pub start_of : ℕ → Start
start_of b =
    if from_to 97 122 b || b == 95 then s.Small
    else (if from_to 65 90 b then s.Large
    else (if from_to 48 57 b then s.Digit
    else (if is_in c.White b then s.White
    else (if b == 123 then s.Brace
    else (if from_to 40 41 b || (b == 44 || (b == 59 || (b == 91 || (b == 93 || (b == 96 || b == 125))))) then s.Special
    else (if is_in c.Symbol b then s.Symbol
    else (if b == 39 then s.Quote
    else (if b == 34 then s.DoubleQuote else s.Other))))))))

-- each byte is in the class
abbrev pub all : (ℕ → Bool) → List ℕ → Bool
all f [] = true
all f (b ∷ bs) = f b && all f bs

-- there is a first byte, and it is in the class
abbrev pub begins : (ℕ → Bool) → List ℕ → Bool
begins f [] = false
begins f (b ∷ bs) = f b

abbrev pub is_empty : List ℕ → Bool
is_empty [] = true
is_empty (b ∷ bs) = false
