-- What a source is: its tokens by layout, or why it has none.
use Rattle.std.specs.Prelude.{◌≡◌, ℕ, List, [], ◌∷◌, length, Option, None, Some, slice_get, Result, Ok, Err, ⊤}
use Rattle.hs_tokens.specs.declared.token.Token.{Token}
use Rattle.hs_lex.specs.declared.reader.LexError.{LexError}
use Rattle.hs_lex.specs.declared.reader.LexError.TheVariants as l
use Rattle.hs_lex.specs.Cover.{Lexes}
use Rattle.haskell_layout.specs.declared.error.LayoutError.{LayoutError}
use Rattle.haskell_layout.specs.declared.error.LayoutError.TheVariants as y
use Rattle.haskell_layout.specs.Layout.{layout_of}
use Rattle.haskell_module.specs.declared.error.SourceError.{SourceError}
use Rattle.haskell_module.specs.declared.error.SourceError.TheVariants as e
use Rattle.bp_checks.specs.Check.{Check, ◌>>=◌}

abbrev pub source_error : LexError → SourceError
source_error (l.Lexical offset) = e.Lexical offset
source_error (l.LeftOut offset) = e.LeftOut offset
source_error l.NoMemory = e.NoMemory

-- the number of bytes before the token at an index; before the end where there is none
abbrev pub offset_or : ℕ → Option Token → ℕ
offset_or end None = end
offset_or end (Some token) = token.offset

abbrev pub offset_at : List Token → ℕ → ℕ → ℕ
offset_at tokens end index = offset_or end (slice_get tokens index)

abbrev pub laid_error : List Token → ℕ → LayoutError → SourceError
laid_error tokens end (y.Layout index) = e.Layout (offset_at tokens end index)
laid_error tokens end y.NoMemory = e.NoMemory

-- the text of these bytes has the tokens, or is refused as the lexer refuses it
abbrev pub LexFails : List ℕ → SourceError → Type 0
LexFails bytes (e.Lexical offset) = Lexes bytes (Err (l.Lexical offset))
LexFails bytes (e.LeftOut offset) = Lexes bytes (Err (l.LeftOut offset))
LexFails bytes (e.Layout offset) = ⊥
LexFails bytes (e.Syntax offset) = ⊥
LexFails bytes e.Nesting = ⊥
LexFails bytes e.NoMemory = ⊥

abbrev pub lexed : List ℕ → Check (List Token) SourceError
lexed bytes = record { passes = λ tokens. Lexes bytes (Ok tokens); fails = LexFails bytes }

-- layout gives these tokens, or fails at the token whose offset is told
abbrev pub laid_out : ℕ → List Token → Check (List Token) SourceError
laid_out end tokens = record {
  passes = λ laid. layout_of tokens end ≡ Ok laid;
  fails = λ error. (index : ℕ) × (layout_of tokens end ≡ Err index)
      × (error ≡ e.Layout (offset_at tokens end index));
}

-- the tokens of a source by layout
abbrev pub tokens_read : List ℕ → Check (List Token) SourceError
tokens_read bytes = lexed bytes >>= laid_out (length bytes)

-- an answer passes the check, and a refusal fails it; of want of memory nothing is said
abbrev pub ChecksSource : {B : Type 0} → Check B SourceError → Result B SourceError → Type 0
ChecksSource check (Ok answer) = check.passes answer
ChecksSource check (Err e.NoMemory) = ⊤
ChecksSource check (Err (e.Lexical offset)) = check.fails (e.Lexical offset)
ChecksSource check (Err (e.LeftOut offset)) = check.fails (e.LeftOut offset)
ChecksSource check (Err (e.Layout offset)) = check.fails (e.Layout offset)
ChecksSource check (Err (e.Syntax offset)) = check.fails (e.Syntax offset)
ChecksSource check (Err e.Nesting) = check.fails e.Nesting
