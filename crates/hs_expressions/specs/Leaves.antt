-- Tests of terminals that begin or end parts of an expression.
use Rattle.std.specs.Prelude.{Bool, true, false}
use Rattle.hs_tokens.specs.declared.terminal.Terminal.{Terminal}
use Rattle.hs_tokens.specs.declared.terminal.Terminal.TheVariants as t
use Rattle.hs_tokens.specs.declared.word.Word.TheVariants as w

abbrev pub is_backslash : Terminal → Bool
is_backslash t.Backslash = true
is_backslash _ = false

abbrev pub is_let : Terminal → Bool
is_let (t.Word w.Let) = true
is_let _ = false

abbrev pub is_in : Terminal → Bool
is_in (t.Word w.In) = true
is_in _ = false

abbrev pub is_if : Terminal → Bool
is_if (t.Word w.If) = true
is_if _ = false

abbrev pub is_then : Terminal → Bool
is_then (t.Word w.Then) = true
is_then _ = false

abbrev pub is_else : Terminal → Bool
is_else (t.Word w.Else) = true
is_else _ = false

abbrev pub is_case : Terminal → Bool
is_case (t.Word w.Case) = true
is_case _ = false

abbrev pub is_of : Terminal → Bool
is_of (t.Word w.Of) = true
is_of _ = false

-- a name that may stand between backquotes
abbrev pub is_quotable : Terminal → Bool
is_quotable (t.Var n) = true
is_quotable (t.QVar n) = true
is_quotable (t.Con n) = true
is_quotable _ = false
