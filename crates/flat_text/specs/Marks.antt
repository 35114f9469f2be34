-- The flat text as data: terminals of the grammar, and white space between them.
use Rattle.std.specs.Prelude.{ℕ, Bool, true, false, List, [], ◌∷◌, ◌++◌, map, codes}
use Rattle.hs_tokens.specs.declared.terminal.Terminal.{Terminal}
use Rattle.hs_tokens.specs.declared.terminal.Terminal.TheVariants as t
use Rattle.hs_tokens.specs.declared.token.TokenKind.{TokenKind}
use Rattle.hs_tokens.specs.declared.token.TokenKind.TheVariants as k
use Rattle.hs_tokens.specs.declared.word.Word.{Word}
use Rattle.hs_tokens.specs.declared.word.Word.TheVariants as w
use Rattle.hs_lex.specs.declared.class.Start.{Start}
use Rattle.hs_lex.specs.declared.class.Start.TheVariants as s
use Rattle.hs_lex.specs.declared.kind.Kind.TheVariants as n
use Rattle.hs_lex.specs.Classes.{start_of}
use Rattle.flat_lex.specs.Pieces.{Piece, text_of}

-- a space, or the end of a line
pub data Blank : Type 0 where
  gap : Blank
  line : Blank

abbrev pub blank_byte : Blank → ℕ
blank_byte Blank.gap = 32
blank_byte Blank.line = 10

-- white space or a terminal
pub data Mark : Type 0 where
  blank : Blank → Mark
  word : Terminal → Mark

abbrev pub Marks : Type 0
Marks = List Mark

-- what a reader sees of them
abbrev pub seen : Marks → List Terminal
seen [] = []
seen (Mark.blank b ∷ ms) = seen ms
seen (Mark.word x ∷ ms) = x ∷ seen ms

-- how a reserved word is written
abbrev pub word_text : Word → List ℕ
word_text w.Case = codes "case"
word_text w.Class = codes "class"
word_text w.Data = codes "data"
word_text w.Default = codes "default"
word_text w.Deriving = codes "deriving"
word_text w.Do = codes "do"
word_text w.Else = codes "else"
word_text w.Foreign = codes "foreign"
word_text w.If = codes "if"
word_text w.Import = codes "import"
word_text w.In = codes "in"
word_text w.Infix = codes "infix"
word_text w.Infixl = codes "infixl"
word_text w.Infixr = codes "infixr"
word_text w.Instance = codes "instance"
word_text w.Let = codes "let"
word_text w.Module = codes "module"
word_text w.Newtype = codes "newtype"
word_text w.Of = codes "of"
word_text w.Then = codes "then"
word_text w.Type = codes "type"
word_text w.Where = codes "where"

-- a terminal as it is written: what begins with its first byte, the kind of its token, and its bytes
pub record Shape : Type 0 where
  pub start : Start
  pub kind : TokenKind
  pub text : List ℕ

abbrev pub first_start : List ℕ → Start
first_start [] = s.Other
first_start (b ∷ bs) = start_of b

abbrev pub special : List ℕ → Shape
special bytes = record { start = s.Special; kind = k.Special; text = bytes }

abbrev pub symbol : List ℕ → Shape
symbol bytes = record { start = s.Symbol; kind = k.Reserved; text = bytes }

abbrev pub shape_of : Terminal → Shape
shape_of (t.Var name) = record { start = s.Small; kind = k.Var; text = name }
shape_of (t.QVar name) = record { start = s.Large; kind = k.Var; text = name }
shape_of (t.Con name) = record { start = s.Large; kind = k.Con; text = name }
shape_of (t.VarSym name) = record { start = s.Symbol; kind = k.VarSym; text = name }
shape_of (t.QVarSym name) = record { start = s.Large; kind = k.VarSym; text = name }
shape_of (t.ConSym name) = record { start = first_start name; kind = k.ConSym; text = name }
shape_of (t.Integer digits) = record { start = s.Digit; kind = k.Integer; text = digits }
shape_of (t.Char literal) = record { start = s.Quote; kind = k.Char; text = literal }
shape_of (t.Text literal) = record { start = s.DoubleQuote; kind = k.Text; text = literal }
shape_of t.LeftParen = special (codes "(")
shape_of t.RightParen = special (codes ")")
shape_of t.Comma = special (codes ",")
shape_of t.Semicolon = special (codes ";")
shape_of t.LeftBracket = special (codes "[")
shape_of t.RightBracket = special (codes "]")
shape_of t.LeftBrace = record { start = s.Brace; kind = k.Special; text = codes "{" }
shape_of t.RightBrace = special (codes "}")
shape_of t.Backquote = special (codes "`")
shape_of t.Underscore = record { start = s.Small; kind = k.Reserved; text = codes "_" }
shape_of t.Colon = symbol (codes ":")
shape_of t.Arrow = symbol (codes "->")
shape_of t.LeftArrow = symbol (codes "<-")
shape_of t.Equals = symbol (codes "=")
shape_of t.Bar = symbol (codes "|")
shape_of t.Backslash = symbol (codes "\\")
shape_of t.At = symbol (codes "@")
shape_of t.Tilde = symbol (codes "~")
shape_of t.DoubleColon = symbol (codes "::")
shape_of t.DotDot = symbol (codes "..")
shape_of t.DoubleArrow = symbol (codes "=>")
shape_of (t.Word reserved) = record { start = s.Small; kind = k.Reserved; text = word_text reserved }
shape_of t.Other = special []

abbrev pub piece_of : Mark → Piece
piece_of (Mark.blank b) = record { start = s.White; kind = n.White; text = blank_byte b ∷ [] }
piece_of (Mark.word x) = record {
  start = (shape_of x).start;
  kind = n.Token (shape_of x).kind;
  text = (shape_of x).text;
}

abbrev pub pieces_of : Marks → List Piece
pieces_of ms = map piece_of ms

-- the bytes of marks
unfoldable pub written : Marks → List ℕ
written ms = text_of (pieces_of ms)

abbrev pub space : Mark
space = Mark.blank Blank.gap

abbrev pub line_end : Mark
line_end = Mark.blank Blank.line

abbrev pub keyword : Word → Mark
keyword reserved = Mark.word (t.Word reserved)

-- `(e)`, `[e]` and `{e}`
abbrev pub bracketed : Marks → Marks
bracketed ms = Mark.word t.LeftParen ∷ (ms ++ Mark.word t.RightParen ∷ [])

abbrev pub listed : Marks → Marks
listed ms = Mark.word t.LeftBracket ∷ (ms ++ Mark.word t.RightBracket ∷ [])

abbrev pub braced : Marks → Marks
braced ms = Mark.word t.LeftBrace ∷ (ms ++ Mark.word t.RightBrace ∷ [])

abbrev pub bracketed_if : Bool → Marks → Marks
bracketed_if true ms = bracketed ms
bracketed_if false ms = ms

-- parts, the first with one thing before it, each further one with another
abbrev pub led : Marks → Marks → List Marks → Marks
led lead by [] = []
led lead by (part ∷ parts) = lead ++ (part ++ led by by parts)

-- `a, a`
abbrev pub parted : List Marks → Marks
parted parts = led [] (Mark.word t.Comma ∷ space ∷ []) parts

-- `{a; a}`
abbrev pub block : List Marks → Marks
block parts = braced (led [] (Mark.word t.Semicolon ∷ space ∷ []) parts)

-- ` a a`
abbrev pub spaced : List Marks → Marks
spaced parts = led (space ∷ []) (space ∷ []) parts
