-- A text as pieces, each of which a reader finds again: what a printer has to keep to.
use Rattle.std.specs.Prelude.{◌≡◌, ℕ, Bool, true, false, ◌&&◌, ◌||◌, List, [], ◌∷◌, ◌++◌, length, map}
use Rattle.hs_tokens.specs.declared.token.Token.{Token}
use Rattle.hs_tokens.specs.declared.token.TokenKind.{TokenKind}
use Rattle.hs_lex.specs.declared.class.Class.TheVariants as c
use Rattle.hs_lex.specs.declared.class.Start.{Start}
use Rattle.hs_lex.specs.declared.class.Start.TheVariants as s
use Rattle.hs_lex.specs.declared.kind.Kind.{Kind}
use Rattle.hs_lex.specs.declared.kind.Kind.TheVariants as k
use Rattle.hs_lex.specs.Classes.{is_in, begins, start_of}
use Rattle.hs_lex.specs.Cover.{Covered}
use Rattle.hs_lex.specs.Cover as v

-- white space or a token: what begins with its first byte, what it is, and its bytes
pub record Piece : Type 0 where
  pub start : Start
  pub kind : Kind
  pub text : List ℕ

-- the bytes of the text
abbrev pub text_of : List Piece → List ℕ
text_of [] = []
text_of (p ∷ ps) = p.text ++ text_of ps

-- a lexeme (Haskell 2010 Report, section 2.2): a token without its place
pub record Lexeme : Type 0 where
  pub kind : TokenKind
  pub text : List ℕ

-- the lexeme that a piece is, where it is one
abbrev pub lexemes_by : Kind → List ℕ → List Lexeme
lexemes_by (k.Token kind) text = record { kind = kind; text = text } ∷ []
lexemes_by k.White text = []
lexemes_by k.Comment text = []
lexemes_by k.LeftOut text = []
lexemes_by k.Broken text = []

-- the lexemes among the pieces
abbrev pub lexemes_of : List Piece → List Lexeme
lexemes_of [] = []
lexemes_of (p ∷ ps) = lexemes_by p.kind p.text ++ lexemes_of ps

-- the byte could go on with what begins so
abbrev pub goes_on : Start → ℕ → Bool
goes_on s.Small b = is_in c.Name b
goes_on s.Large b = is_in c.Name b || is_in c.Symbol b
goes_on s.Digit b = is_in c.Name b || is_in c.Symbol b
goes_on s.Symbol b = is_in c.Symbol b
goes_on s.Brace b = is_in c.Dash b
goes_on _ b = false

-- a byte of a name begins a name, a number or a character
abbrev pub of_name : Start → Bool
of_name s.Small = true
of_name s.Large = true
of_name s.Digit = true
of_name s.Quote = true
of_name _ = false

-- a symbol character begins a symbol
abbrev pub of_symbol : Start → Bool
of_symbol s.Symbol = true
of_symbol _ = false

-- what may not stand right behind what begins so
abbrev pub joins : Start → Start → Bool
joins s.Small next = of_name next
joins s.Large next = of_name next || of_symbol next
joins s.Digit next = of_name next || of_symbol next
joins s.Symbol next = of_symbol next
joins s.Brace next = of_symbol next
joins _ next = false

abbrev pub joins_first : Start → List Piece → Bool
joins_first start [] = false
joins_first start (p ∷ ps) = joins start p.start

-- no piece stands right behind one that it could go on
abbrev pub IsSpaced : List Piece → Type 0
IsSpaced [] = Unit {0}
IsSpaced (p ∷ ps) = (joins_first p.start ps ≡ false) × IsSpaced ps

-- A piece that stands wherever no byte follows that goes on with it.
pub record IsPiece (p : Piece) : Type 0 where
  pub first : ℕ
  pub more : List ℕ
  pub spelled : p.text ≡ first ∷ more
  pub starts : start_of first ≡ p.start
  pub sound : v.is_sound p.kind ≡ true
  pub stands : (rest : List ℕ) → begins (goes_on p.start) rest ≡ false
      → v.IsPiece (record { kind = p.kind; len = length p.text }) (p.text ++ rest)

abbrev pub ArePieces : List Piece → Type 0
ArePieces [] = Unit {0}
ArePieces (p ∷ ps) = IsPiece p × ArePieces ps

abbrev pub lexeme_of : Token → Lexeme
lexeme_of t = record { kind = t.kind; text = t.text }

-- the tokens of the text are these lexemes
pub record IsRead (text : List ℕ) (lexemes : List Lexeme) : Type 0 where
  pub tokens : List Token
  pub covered : Covered text tokens
  pub lexemes_are : map lexeme_of tokens ≡ lexemes

-- A reader finds the pieces of a text again, where none touches one that it could be read with.
abbrev pub PiecesAreRead : Type 0
PiecesAreRead = (ps : List Piece) → ArePieces ps → IsSpaced ps → IsRead (text_of ps) (lexemes_of ps)
