-- What holds of every layout.
use Rattle.std.specs.Prelude.{◌≡◌, ℕ, zero, suc, Bool, true, false, not, ◌&&◌, List, [], ◌∷◌, Ok, codes, if◌then◌else◌}
use Rattle.bp_base.specs.Lists.{Among}
use Rattle.hs_tokens.specs.declared.token.Token.{Token}
use Rattle.hs_tokens.specs.declared.token.TokenKind.TheVariants as k
use Rattle.haskell_layout.specs.declared.role.Role.{Role}
use Rattle.haskell_layout.specs.declared.role.Role.TheVariants as r
use Rattle.haskell_layout.specs.Role.{role_of, makes_due, is_open_brace}
use Rattle.haskell_layout.specs.Layout.{due_at_start, layout_of}

-- a token that layout makes at an offset
pub record IsMade (offset : ℕ) (token : Token) : Type 0 where
  pub kind : token.kind ≡ k.Special
  pub text : Among token.text (codes "{" ∷ codes "}" ∷ codes ";" ∷ [])
  pub at : token.offset ≡ offset
  pub column : token.column ≡ 0
  pub first : token.first ≡ false

-- where the next token of the source begins, or where the source ends
abbrev pub next_offset : ℕ → List Token → ℕ
next_offset length [] = length
next_offset length (token ∷ tokens) = token.offset

-- An answer is the tokens of the source in their order, with made tokens between them, each at the offset of what
-- follows.
pub data LaidOut (length : ℕ) : List Token → List Token → Type 0 where
  ended : LaidOut length [] []
  given : (token : Token) (tokens answer : List Token) → LaidOut length tokens answer
      → LaidOut length (token ∷ tokens) (token ∷ answer)
  made : (token : Token) (tokens answer : List Token) → IsMade (next_offset length tokens) token
      → LaidOut length tokens answer
      → LaidOut length tokens (token ∷ answer)

abbrev pub GivenStand : Type 0
GivenStand = (tokens answer : List Token) (length : ℕ) → layout_of tokens length ≡ Ok answer
    → LaidOut length tokens answer

-- whether a `{` follows wherever a block would be due
abbrev pub none_due : Bool → List Token → Bool
none_due due [] = not due
none_due due (token ∷ tokens) = (if due then is_open_brace (role_of token) else true) && none_due
    (makes_due (role_of token)) tokens

-- Tokens whose every block has braces come back unchanged.
abbrev pub BracesStay : Type 0
BracesStay = (tokens answer : List Token) (length : ℕ) → none_due (due_at_start tokens) tokens ≡ true →
    layout_of tokens length ≡ Ok answer → answer ≡ tokens

-- a brace opens or ends a block
abbrev pub matched_by : Role → ℕ → (ℕ → Type 0) → Type 0
matched_by r.OpenBrace depth Rest = Rest (suc depth)
matched_by r.CloseBrace zero Rest = ⊥
matched_by r.CloseBrace (suc depth) Rest = Rest depth
matched_by _ depth Rest = Rest depth

-- With so many blocks open, each `}` that follows has its `{`, and no `{` is left without its `}`.
abbrev pub Matched : ℕ → List Token → Type 0
Matched depth [] = depth ≡ 0
Matched depth (token ∷ tokens) = matched_by (role_of token) depth (λ next. Matched next tokens)

abbrev pub BracesMatch : Type 0
BracesMatch = (tokens answer : List Token) (length : ℕ) → layout_of tokens length ≡ Ok answer → Matched 0 answer

-- Tokens whose every block has braces that match are their own layout: it has an answer, which is these tokens.
abbrev pub BracesLayOut : Type 0
BracesLayOut = (tokens : List Token) (length : ℕ) → none_due (due_at_start tokens) tokens ≡ true → Matched 0 tokens
    → layout_of tokens length ≡ Ok tokens
