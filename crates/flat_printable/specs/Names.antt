-- Which names the lexer reads as themselves (Haskell 2010 Report, sections 2.2 and 2.4).
use Rattle.std.specs.Prelude.{ℕ, Bool, true, false, not, ◌&&◌, ◌||◌, List, [], ◌∷◌, map, Option, Some, None}
use Rattle.hs_forms.specs.Limits.{all_of}
use Rattle.hs_tokens.specs.declared.terminal.Terminal.{Terminal}
use Rattle.hs_tokens.specs.declared.terminal.Terminal.TheVariants as t
use Rattle.hs_tokens.specs.declared.token.TokenKind.{TokenKind}
use Rattle.hs_tokens.specs.declared.token.TokenKind.TheVariants as k
use Rattle.hs_tokens.specs.Terminals.{is_qualified}
use Rattle.hs_tokens.specs.Words.{is_left_out}
use Rattle.hs_lex.specs.declared.class.Class.TheVariants as c
use Rattle.hs_lex.specs.declared.class.Start.{Start}
use Rattle.hs_lex.specs.declared.class.Start.TheVariants as s
use Rattle.hs_lex.specs.declared.kind.Kind.{Kind}
use Rattle.hs_lex.specs.declared.kind.Kind.TheVariants as n
use Rattle.hs_lex.specs.Classes.{is_in, all, start_of}
use Rattle.hs_lex.specs.Words.{word_kind, symbol_kind}
use Rattle.hs_lex.specs.Lexicon.{capital, is_dashed}
use Rattle.flat_text.specs.declared.flat.FlatModule.{FlatModule}
use Rattle.flat_text.specs.Marks.{Marks, seen}
use Rattle.flat_text.specs.ModuleMarks.{module_marks}

abbrev pub is_small : Start → Bool
is_small s.Small = true
is_small _ = false

abbrev pub is_large : Start → Bool
is_large s.Large = true
is_large _ = false

abbrev pub is_symbolic : Start → Bool
is_symbolic s.Symbol = true
is_symbolic _ = false

abbrev pub is_var : TokenKind → Bool
is_var k.Var = true
is_var _ = false

abbrev pub is_con : TokenKind → Bool
is_con k.Con = true
is_con _ = false

abbrev pub is_var_sym : TokenKind → Bool
is_var_sym k.VarSym = true
is_var_sym _ = false

abbrev pub is_con_sym : TokenKind → Bool
is_con_sym k.ConSym = true
is_con_sym _ = false

-- a token of such a kind
abbrev pub is_token : (TokenKind → Bool) → Kind → Bool
is_token test (n.Token kind) = test kind
is_token test _ = false

abbrev pub makes : (TokenKind → Bool) → Option Kind → Bool
makes test (Some kind) = is_token test kind
makes test None = false

-- a variable's name that is no symbol and not qualified
abbrev pub is_var_name : List ℕ → Bool
is_var_name [] = false
is_var_name (b ∷ bs) =
    is_small (start_of b) && (all (is_in c.Name) bs
    && (is_token is_var (word_kind (b ∷ bs)) && not (is_qualified (b ∷ bs))))

-- a symbol that is not qualified
abbrev pub is_symbol_name : (TokenKind → Bool) → List ℕ → Bool
is_symbol_name test [] = false
is_symbol_name test (b ∷ bs) =
    is_symbolic (start_of b) && (all (is_in c.Symbol) bs
    && (not (is_dashed b bs) && is_token test (symbol_kind (b ∷ bs))))

-- what begins with a capital: a constructor's name, or what is qualified
abbrev pub is_large_name : (TokenKind → Bool) → List ℕ → Bool
is_large_name test [] = false
is_large_name test (b ∷ bs) = is_large (start_of b) && makes test (capital false bs [])

-- A terminal that is no literal is one that the lexer reads as itself.
abbrev pub is_lawful_name : Terminal → Bool
is_lawful_name (t.Var name) = is_var_name name
is_lawful_name (t.QVar name) = is_large_name is_var name && is_qualified name
is_lawful_name (t.Con name) = is_large_name is_con name
is_lawful_name (t.VarSym name) = is_symbol_name is_var_sym name && not (is_qualified name)
is_lawful_name (t.QVarSym name) = is_large_name is_var_sym name && is_qualified name
is_lawful_name (t.ConSym name) = is_symbol_name is_con_sym name || is_large_name is_con_sym name
is_lawful_name (t.Word reserved) = not (is_left_out reserved)
is_lawful_name t.Other = false
is_lawful_name _ = true

abbrev pub are_named : Marks → Bool
are_named ms = all_of (map is_lawful_name (seen ms))

-- Each name of the module is, where it is written, one that the lexer reads as itself.
abbrev pub has_lawful_names : FlatModule → Bool
has_lawful_names m = are_named (module_marks m)
