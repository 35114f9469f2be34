-- What a token is to layout, and the tokens that layout makes.
use Rattle.std.specs.Prelude.{ℕ, Bool, true, false, List, codes, bytes_eq, if◌then◌else◌}
use Rattle.hs_tokens.specs.declared.token.Token.{Token}
use Rattle.hs_tokens.specs.declared.token.TokenKind.{TokenKind}
use Rattle.hs_tokens.specs.declared.token.TokenKind.TheVariants as k
use Rattle.hs_tokens.specs.declared.word.Word.{Word}
use Rattle.hs_tokens.specs.declared.word.Word.TheVariants as w
use Rattle.hs_tokens.specs.declared.terminal.Terminal.{Terminal}
use Rattle.hs_tokens.specs.declared.terminal.Terminal.TheVariants as t
use Rattle.hs_tokens.specs.Terminals.{special_of, reserved_of}
use Rattle.haskell_layout.specs.declared.role.Role.{Role}
use Rattle.haskell_layout.specs.declared.role.Role.TheVariants as r
use Rattle.haskell_layout.specs.declared.role.Made.{Made}
use Rattle.haskell_layout.specs.declared.role.Made.TheVariants as m

abbrev pub word_role : Word → Role
word_role w.If = r.If
word_role w.Then = r.Then
word_role w.Else = r.Else
word_role w.Case = r.Case
word_role w.Of = r.Of
word_role w.Let = r.Let
word_role w.In = r.In
word_role w.Where = r.Where
word_role w.Module = r.Header
word_role _ = r.Other

-- brackets, separators, reserved symbols and words
abbrev pub terminal_role : Terminal → Role
terminal_role t.LeftParen = r.OpenParen
terminal_role t.RightParen = r.CloseParen
terminal_role t.LeftBracket = r.OpenBracket
terminal_role t.RightBracket = r.CloseBracket
terminal_role t.LeftBrace = r.OpenBrace
terminal_role t.RightBrace = r.CloseBrace
terminal_role t.Comma = r.Comma
terminal_role t.Semicolon = r.Semicolon
terminal_role t.Backslash = r.Lambda
terminal_role t.Bar = r.Bar
terminal_role t.Arrow = r.Arrow
terminal_role t.Equals = r.Equals
terminal_role (t.Word word) = word_role word
terminal_role _ = r.Other

-- a name: `signature` is no reserved word
abbrev pub name_role : List ℕ → Role
name_role text = if bytes_eq text (codes "signature") then r.Header else r.Other

abbrev pub role_by : TokenKind → List ℕ → Role
role_by k.Special text = terminal_role (special_of text)
role_by k.Reserved text = terminal_role (reserved_of text)
role_by k.Var text = name_role text
role_by _ text = r.Other

abbrev pub role_of : Token → Role
role_of token = role_by token.kind token.text

-- A block is due after `let`, `where` and `of`.
abbrev pub makes_due : Role → Bool
makes_due r.Let = true
makes_due r.Where = true
makes_due r.Of = true
makes_due _ = false

-- whether the token is `{`
abbrev pub is_open_brace : Role → Bool
is_open_brace r.OpenBrace = true
is_open_brace _ = false

-- whether an item of a block can begin behind the token: `{` and `;`
abbrev pub begins_item : Role → Bool
begins_item r.OpenBrace = true
begins_item r.Semicolon = true
begins_item _ = false

-- whether the source's first token begins a header
abbrev pub is_header : Role → Bool
is_header r.Header = true
is_header _ = false

abbrev pub made_text : Made → List ℕ
made_text m.Open = codes "{"
made_text m.Close = codes "}"
made_text m.Semicolon = codes ";"

-- The token that is made at an offset: special, in column 0, and not first on its line.
abbrev pub made_token : Made → ℕ → Token
made_token made offset = record { kind = k.Special; text = made_text made; offset = offset; column = 0; first = false }
