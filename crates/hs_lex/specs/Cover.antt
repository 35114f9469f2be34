-- The tokens of a source.
use Rattle.std.specs.Prelude.{◌≡◌, ℕ, ◌+◌, ◌-◌, ◌*◌, ◌/◌, ◌<◌, min, Bool, true, false, not, ◌&&◌, ◌||◌, ◌==◌, List, []}
use Rattle.std.specs.Prelude.{◌∷◌, ◌++◌, length, take, drop, Result, Ok, Err, if◌then◌else◌}
use Rattle.std.specs.List.{fold, prefix_len}
use Rattle.hs_tokens.specs.declared.token.Token.{Token}
use Rattle.hs_lex.specs.declared.class.Class.TheVariants as c
use Rattle.hs_lex.specs.declared.kind.Kind.{Kind}
use Rattle.hs_lex.specs.declared.kind.Kind.TheVariants as k
use Rattle.hs_lex.specs.declared.reader.LexError.{LexError}
use Rattle.hs_lex.specs.declared.reader.LexError.TheVariants as e
use Rattle.hs_lex.specs.Classes.{is_in}
use Rattle.hs_lex.specs.Lexicon.{kind_of}
use Rattle.hs_lex.specs.Longest.{Longest}

-- a piece of a source: what it is, and its number of bytes
pub record Piece : Type 0 where
  pub kind : Kind
  pub len : ℕ

-- a piece stands at the front of a text: it is the longest one that does
pub record IsPiece (piece : Piece) (text : List ℕ) : Type 0 where
  pub some : 0 < piece.len
  pub longest : Longest kind_of text piece.kind piece.len

-- The pieces stand at the front of the text, one behind the other, and rest is what they leave of it.
abbrev pub Cuts : List Piece → List ℕ → List ℕ → Type 0
Cuts [] text rest = text ≡ rest
Cuts (p ∷ ps) text rest = IsPiece p text × Cuts ps (drop p.len text) rest

-- white space, a comment or a token
abbrev pub is_sound : Kind → Bool
is_sound k.White = true
is_sound k.Comment = true
is_sound (k.Token kind) = true
is_sound k.LeftOut = false
is_sound k.Broken = false

abbrev pub are_sound : List Piece → Bool
are_sound [] = true
are_sound (p ∷ ps) = is_sound p.kind && are_sound ps

-- The column behind a byte: 1 behind the end of a line, the next 8k + 1 behind a tab, the same inside a character, else
-- one more;
-- a column past the greatest u64 is that number.
abbrev pub next_column : ℕ → ℕ → ℕ
next_column column b =
    if is_in c.Ending b then 1
    else (if b == 9 then min 18446744073709551615 ((column - 1) / 8 * 8 + 9)
    else (if is_in c.Continuation b then column else min 18446744073709551615 (column + 1)))

-- the column behind these bytes, from the column before them
abbrev pub column_behind : ℕ → List ℕ → ℕ
column_behind column bytes = fold next_column column bytes

-- a line ends in the bytes
abbrev pub has_ending : List ℕ → Bool
has_ending w = not (prefix_len (is_in c.Line) w == length w)

-- Whether only white space and comments stand on the line before what is behind this piece.
abbrev pub first_behind : Bool → Kind → List ℕ → Bool
first_behind first k.White w = first || has_ending w
first_behind first k.Comment w = first || has_ending w
first_behind first (k.Token kind) w = false
first_behind first k.LeftOut w = false
first_behind first k.Broken w = false

-- the token that a piece is, where it is one
abbrev pub token_of : Kind → List ℕ → ℕ → ℕ → Bool → List Token
token_of (k.Token kind) w offset column first = record {
  kind = kind;
  text = w;
  offset = offset;
  column = column;
  first = first;
} ∷ []
token_of k.White w offset column first = []
token_of k.Comment w offset column first = []
token_of k.LeftOut w offset column first = []
token_of k.Broken w offset column first = []

-- The tokens among the pieces of a text that stands behind the bytes before it: each with the number of bytes before
-- it, the column
-- behind them, and whether it is the first on its line.
abbrev pub tokens_of : List ℕ → Bool → List Piece → List ℕ → List Token
tokens_of before first [] text = []
tokens_of before first (p ∷ ps) text =
    token_of p.kind (take p.len text) (length before) (column_behind 1 before) first
    ++ tokens_of (before ++ take p.len text) (first_behind first p.kind (take p.len text)) ps (drop p.len text)

-- the tokens of a text that sound pieces cover
pub record Covered (text : List ℕ) (tokens : List Token) : Type 0 where
  pub pieces : List Piece
  pub cuts : Cuts pieces text []
  pub sound : are_sound pieces ≡ true
  pub told : tokens ≡ tokens_of [] true pieces text

-- sound pieces stand before the offset, and behind it a piece of that kind
pub record Stops (kind : Kind) (text : List ℕ) (offset : ℕ) : Type 0 where
  pub pieces : List Piece
  pub rest : List ℕ
  pub len : ℕ
  pub cuts : Cuts pieces text rest
  pub sound : are_sound pieces ≡ true
  pub stands : IsPiece (record { kind = kind; len = len }) rest
  pub place : offset + length rest ≡ length text

-- What the text is: covered by sound pieces, or the first other piece is broken or left out.
abbrev pub Lexes : List ℕ → Result (List Token) LexError → Type 0
Lexes text (Ok tokens) = Covered text tokens
Lexes text (Err (e.Lexical offset)) = Stops k.Broken text offset
Lexes text (Err (e.LeftOut offset)) = Stops k.LeftOut text offset
Lexes text (Err e.NoMemory) = Unit {0}

-- a piece of that kind at the offset is refused so
abbrev pub IsRefusedAs : Kind → ℕ → LexError → Type 0
IsRefusedAs kind at (e.Lexical offset) = (kind ≡ k.Broken) × (offset ≡ at)
IsRefusedAs kind at (e.LeftOut offset) = (kind ≡ k.LeftOut) × (offset ≡ at)
IsRefusedAs kind at e.NoMemory = Unit {0}

-- what taking a piece answers: its token behind the others, or why it is refused
abbrev pub Takes : List Token → List Token → List Token → Kind → ℕ → Result (Unit {0}) LexError → Type 0
Takes old new more kind at (Ok done) = (new ≡ old ++ more) × (is_sound kind ≡ true)
Takes old new more kind at (Err error) = IsRefusedAs kind at error

-- no two lists of pieces cover one text
abbrev pub OneCover : Type 0
OneCover = (text : List ℕ) (ps qs : List Piece) → Cuts ps text [] → Cuts qs text [] → ps ≡ qs

-- no text has two answers, want of memory aside
abbrev pub OneAnswer : Type 0
OneAnswer = (text : List ℕ) (one two : Result (List Token) LexError) → Lexes text one → Lexes text two →
    (one ≡ Err e.NoMemory → ⊥) → (two ≡ Err e.NoMemory → ⊥) → one ≡ two
