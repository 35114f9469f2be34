-- Words and symbols, reserved and left out (Haskell 2010 Report, section 2.4).
use Rattle.std.specs.Prelude.{ℕ, Bool, false, not, ◌&&◌, ◌||◌, ◌==◌, nat_lt, List, length, Option, Some, None}
use Rattle.std.specs.Prelude.{if◌then◌else◌}
use Rattle.std.specs.List.{prefix_len}
use Rattle.hs_tokens.specs.declared.word.Word.{Word}
use Rattle.hs_tokens.specs.Words.{word_of, is_left_out}
use Rattle.hs_tokens.specs.Terminals.{is_reserved}
use Rattle.hs_tokens.specs.declared.token.TokenKind.TheVariants as t
use Rattle.hs_lex.specs.declared.class.Class.TheVariants as c
use Rattle.hs_lex.specs.declared.kind.Kind.{Kind}
use Rattle.hs_lex.specs.declared.kind.Kind.TheVariants as k
use Rattle.hs_lex.specs.Classes.{is_in, begins}

-- two dashes or more
abbrev pub is_dashes : List ℕ → Bool
is_dashes w = nat_lt 1 (length w) && (prefix_len (is_in c.Dash) w == length w)

-- whether a word is one of those that begin what this project leaves out
abbrev pub begins_left_out : Option Word → Bool
begins_left_out None = false
begins_left_out (Some word) = is_left_out word

-- what a word that begins with a small letter is
abbrev pub word_kind : List ℕ → Kind
word_kind w = if begins_left_out (word_of w) then k.LeftOut else
    (if is_reserved w then k.Token t.Reserved else k.Token t.Var)

-- a symbol that is not reserved, by its first character
abbrev pub operator : List ℕ → Kind
operator w = if begins (λ b. b == 58) w then k.Token t.ConSym else k.Token t.VarSym

abbrev pub symbol_kind : List ℕ → Kind
symbol_kind w = if is_reserved w then k.Token t.Reserved else operator w

-- what may stand behind the dot of a qualified name
abbrev pub is_plain_word : List ℕ → Bool
is_plain_word w = not (is_reserved w)

abbrev pub is_plain_symbol : List ℕ → Bool
is_plain_symbol w = not (is_reserved w || is_dashes w)
