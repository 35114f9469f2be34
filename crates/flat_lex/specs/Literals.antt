-- How a printer writes literals (Haskell 2010 Report, section 2.6): in ASCII, each in one way.
use Rattle.std.specs.Prelude.{◌≤◌, ℕ, Bool, true, false, not, ◌&&◌, ◌||◌, ◌==◌, List, [], ◌∷◌, ◌++◌}
use Rattle.std.specs.Fmt.{decimal}
use Rattle.hs_tokens.specs.declared.token.TokenKind.TheVariants as t
use Rattle.hs_lex.specs.declared.class.Start.TheVariants as s
use Rattle.hs_lex.specs.declared.kind.Kind.TheVariants as k
use Rattle.hs_lex.specs.Classes.{from_to}
use Rattle.flat_lex.specs.Pieces.{Piece, IsPiece}

-- A graphic character or space is itself; a mark, which is the quote or the backslash, has a backslash before it;
-- others are numbers.
abbrev pub char_by : Bool → Bool → ℕ → List ℕ
char_by true true code = 92 ∷ code ∷ []
char_by true false code = code ∷ []
char_by false mark code = 92 ∷ decimal code

abbrev pub char_bytes : ℕ → ℕ → List ℕ
char_bytes quote code = char_by (from_to 32 126 code) (code == quote || code == 92) code

-- A `\&` stands between a number and a digit.
abbrev pub gap_by : Bool → List ℕ
gap_by true = 92 ∷ 38 ∷ []
gap_by false = []

abbrev pub gap : ℕ → List ℕ → List ℕ
gap code [] = []
gap code (next ∷ codes) = gap_by (not (from_to 32 126 code) && from_to 48 57 next)

abbrev pub string_bytes : List ℕ → List ℕ
string_bytes [] = []
string_bytes (code ∷ codes) = char_bytes 34 code ++ (gap code codes ++ string_bytes codes)

abbrev pub integer_piece : ℕ → Piece
integer_piece value = record { start = s.Digit; kind = k.Token t.Integer; text = decimal value }

abbrev pub character_piece : ℕ → Piece
character_piece code = record { start = s.Quote; kind = k.Token t.Char; text = 39 ∷ (char_bytes 39 code ++ 39 ∷ []) }

abbrev pub string_piece : List ℕ → Piece
string_piece codes = record {
  start = s.DoubleQuote;
  kind = k.Token t.Text;
  text = 34
      ∷ (string_bytes codes ++ 34 ∷ []);
}

-- numbers of characters
abbrev pub AreCodes : List ℕ → Type 0
AreCodes [] = Unit {0}
AreCodes (code ∷ codes) = (code ≤ 1114111) × AreCodes codes

-- Each integer of 64 bits, character and string that is written so is one piece.
pub record LiteralsArePieces : Type 0 where
  pub integer : (value : ℕ) → value ≤ 9223372036854775807 → IsPiece (integer_piece value)
  pub character : (code : ℕ) → code ≤ 1114111 → IsPiece (character_piece code)
  pub string : (codes : List ℕ) → AreCodes codes → IsPiece (string_piece codes)
