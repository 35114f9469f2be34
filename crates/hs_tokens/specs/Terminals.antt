-- What the grammar sees of a token (Haskell 2010 Report, sections 2.4 and 10.2).
use Rattle.std.specs.Prelude.{ℕ, Bool, true, false, ◌&&◌, ◌||◌, nat_le, List, [], ◌∷◌, Option, Some, None, is_some}
use Rattle.std.specs.Prelude.{unwrap_or, codes}
use Rattle.std.specs.Str.{bytes_eq}
use Rattle.std.specs.Map.{lookup}
use Rattle.hs_tokens.specs.declared.token.Token.{Token}
use Rattle.hs_tokens.specs.declared.token.TokenKind.{TokenKind}
use Rattle.hs_tokens.specs.declared.token.TokenKind.TheVariants as k
use Rattle.hs_tokens.specs.declared.word.Word.{Word}
use Rattle.hs_tokens.specs.Words.{word_of}
use Rattle.hs_tokens.specs.declared.terminal.Terminal.{Terminal}
use Rattle.hs_tokens.specs.declared.terminal.Terminal.TheVariants as t

-- A variable or symbol that begins with a capital letter begins with a module's name: it is qualified.
abbrev pub is_qualified : List ℕ → Bool
is_qualified [] = false
is_qualified (b ∷ bs) = nat_le 65 b && nat_le b 90

-- the special tokens and their characters
abbrev pub specials : List (List ℕ × Terminal)
specials =
    (codes "(", t.LeftParen) ∷ (codes ")", t.RightParen) ∷ (codes ",", t.Comma) ∷ (codes ";", t.Semicolon)
    ∷ (codes "[", t.LeftBracket) ∷ (codes "]", t.RightBracket) ∷ (codes "{", t.LeftBrace) ∷ (codes "}", t.RightBrace)
    ∷ (codes "`", t.Backquote) ∷ []

-- the reserved symbols, and `_`
abbrev pub symbols : List (List ℕ × Terminal)
symbols =
    (codes "_", t.Underscore) ∷ (codes ":", t.Colon) ∷ (codes "->", t.Arrow) ∷ (codes "<-", t.LeftArrow) ∷
    (codes "=", t.Equals)
    ∷ (codes "|", t.Bar) ∷ (codes "\\", t.Backslash) ∷ (codes "@", t.At) ∷ (codes "~", t.Tilde) ∷
    (codes "::", t.DoubleColon)
    ∷ (codes "..", t.DotDot) ∷ (codes "=>", t.DoubleArrow) ∷ []

abbrev pub special_of : List ℕ → Terminal
special_of text = unwrap_or (lookup (bytes_eq text) specials) t.Other

unfoldable pub symbol_of : List ℕ → Option Terminal
symbol_of text = lookup (bytes_eq text) symbols

-- a reserved token: a symbol or a word
abbrev pub reserved_by : Option Terminal → Option Word → Terminal
reserved_by (Some symbol) word = symbol
reserved_by None (Some word) = t.Word word
reserved_by None None = t.Other

abbrev pub reserved_of : List ℕ → Terminal
reserved_of text = reserved_by (symbol_of text) (word_of text)

-- a word or symbol that Haskell reserves
unfoldable pub is_reserved : List ℕ → Bool
is_reserved text = is_some (symbol_of text) || is_some (word_of text)

abbrev pub named : Bool → Terminal → Terminal → Terminal
named true qualified plain = qualified
named false qualified plain = plain

abbrev pub terminal_by : TokenKind → List ℕ → Terminal
terminal_by k.Var text = named (is_qualified text) (t.QVar text) (t.Var text)
terminal_by k.Con text = t.Con text
terminal_by k.VarSym text = named (is_qualified text) (t.QVarSym text) (t.VarSym text)
terminal_by k.ConSym text = t.ConSym text
terminal_by k.Reserved text = reserved_of text
terminal_by k.Special text = special_of text
terminal_by k.Integer text = t.Integer text
terminal_by k.Char text = t.Char text
terminal_by k.Text text = t.Text text

abbrev pub terminal_of : Token → Terminal
terminal_of token = terminal_by token.kind token.text

-- tests of terminals
abbrev pub is_arrow : Terminal → Bool
is_arrow t.Arrow = true
is_arrow _ = false

abbrev pub is_comma : Terminal → Bool
is_comma t.Comma = true
is_comma _ = false

abbrev pub is_right_paren : Terminal → Bool
is_right_paren t.RightParen = true
is_right_paren _ = false

abbrev pub is_right_bracket : Terminal → Bool
is_right_bracket t.RightBracket = true
is_right_bracket _ = false

abbrev pub is_at : Terminal → Bool
is_at t.At = true
is_at _ = false

abbrev pub is_integer : Terminal → Bool
is_integer (t.Integer text) = true
is_integer _ = false

abbrev pub is_backquote : Terminal → Bool
is_backquote t.Backquote = true
is_backquote _ = false

abbrev pub is_con : Terminal → Bool
is_con (t.Con name) = true
is_con _ = false

abbrev pub is_var_sym : Terminal → Bool
is_var_sym (t.VarSym name) = true
is_var_sym _ = false

abbrev pub starts_qconop : Terminal → Bool
starts_qconop (t.ConSym name) = true
starts_qconop t.Colon = true
starts_qconop t.Backquote = true
starts_qconop _ = false

abbrev pub minus : List ℕ
minus = codes "-"

abbrev pub star : List ℕ
star = codes "*"

-- the symbol `-`
abbrev pub is_minus : Terminal → Bool
is_minus (t.VarSym name) = bytes_eq name minus
is_minus _ = false

-- the symbol `*`
abbrev pub is_star : Terminal → Bool
is_star (t.VarSym name) = bytes_eq name star
is_star _ = false
