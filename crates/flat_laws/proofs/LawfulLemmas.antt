-- Terminals that are read as themselves.
use Rattle.std.proofs.Common.{◌≡◌, ℕ, ◌≤◌, Bool, true, false, List, [], ◌∷◌, ◌++◌, refl, ap, subst, sym, Some}
use Rattle.std.specs.Prelude.{codes}
use Rattle.std.specs.Fmt.{decimal}
use Rattle.hs_tokens.specs.declared.terminal.Terminal.{Terminal}
use Rattle.hs_tokens.specs.declared.terminal.Terminal.TheVariants as t
use Rattle.hs_tokens.specs.declared.token.TokenKind.TheVariants as k
use Rattle.hs_tokens.specs.declared.word.Word.TheVariants as w
use Rattle.hs_tokens.specs.Words.{declaration_word, expression_word, left_out_word}
use Rattle.hs_tokens.specs.Terminals.{symbol_of, is_reserved, is_qualified, named}
use Rattle.hs_lex.specs.declared.class.Class.TheVariants as c
use Rattle.hs_lex.specs.declared.class.Start.TheVariants as s
use Rattle.hs_lex.specs.declared.kind.Kind.TheVariants as n
use Rattle.hs_lex.specs.Classes.{is_in, all, start_of}
use Rattle.hs_lex.specs.Words.{word_kind, symbol_kind}
use Rattle.hs_lex.specs.Lexicon.{capital, is_dashed}
use Rattle.flat_lex.specs.Literals.{char_bytes, string_bytes, AreCodes}
use Rattle.flat_lex.proofs.PieceLemmas.{small_piece, large_piece, symbol_piece, special_piece, brace_piece}
use Rattle.flat_lex.proofs.LiteralLemmas.{integer_stands, character_stands, string_stands}
use Rattle.flat_laws.specs.Reading.{IsLawful, is_fixed, NamesAreLawful}
use Rattle.hs_lex.specs.declared.class.Start.{Start}
use Rattle.flat_lex.specs.Pieces.{IsPiece}

left_paren_lawful : IsLawful t.LeftParen
unfolding start_of
left_paren_lawful = record { piece = special_piece 40 refl; terminal = refl }

right_paren_lawful : IsLawful t.RightParen
unfolding start_of
right_paren_lawful = record { piece = special_piece 41 refl; terminal = refl }

comma_lawful : IsLawful t.Comma
unfolding start_of
comma_lawful = record { piece = special_piece 44 refl; terminal = refl }

semicolon_lawful : IsLawful t.Semicolon
unfolding start_of
semicolon_lawful = record { piece = special_piece 59 refl; terminal = refl }

left_bracket_lawful : IsLawful t.LeftBracket
unfolding start_of
left_bracket_lawful = record { piece = special_piece 91 refl; terminal = refl }

right_bracket_lawful : IsLawful t.RightBracket
unfolding start_of
right_bracket_lawful = record { piece = special_piece 93 refl; terminal = refl }

right_brace_lawful : IsLawful t.RightBrace
unfolding start_of
right_brace_lawful = record { piece = special_piece 125 refl; terminal = refl }

backquote_lawful : IsLawful t.Backquote
unfolding start_of
backquote_lawful = record { piece = special_piece 96 refl; terminal = refl }

left_brace_lawful : IsLawful t.LeftBrace
unfolding start_of
left_brace_lawful = record { piece = brace_piece 123 refl; terminal = refl }

underscore_lawful : IsLawful t.Underscore
unfolding start_of declaration_word expression_word left_out_word symbol_of is_reserved
underscore_lawful = record { piece = small_piece 95 [] (n.Token k.Reserved) refl refl refl refl; terminal = refl }

colon_lawful : IsLawful t.Colon
unfolding start_of declaration_word expression_word left_out_word symbol_of is_reserved
colon_lawful = record {
  piece = symbol_piece 58 ([]) (n.Token k.Reserved) refl refl refl refl refl;
  terminal = refl;
}

arrow_lawful : IsLawful t.Arrow
unfolding start_of declaration_word expression_word left_out_word symbol_of is_reserved
arrow_lawful = record {
  piece = symbol_piece 45 (62 ∷ []) (n.Token k.Reserved) refl refl refl refl refl;
  terminal = refl;
}

left_arrow_lawful : IsLawful t.LeftArrow
unfolding start_of declaration_word expression_word left_out_word symbol_of is_reserved
left_arrow_lawful = record {
  piece = symbol_piece 60 (45 ∷ []) (n.Token k.Reserved) refl refl refl refl refl;
  terminal = refl;
}

equals_lawful : IsLawful t.Equals
unfolding start_of declaration_word expression_word left_out_word symbol_of is_reserved
equals_lawful = record {
  piece = symbol_piece 61 ([]) (n.Token k.Reserved) refl refl refl refl refl;
  terminal = refl;
}

bar_lawful : IsLawful t.Bar
unfolding start_of declaration_word expression_word left_out_word symbol_of is_reserved
bar_lawful = record {
  piece = symbol_piece 124 ([]) (n.Token k.Reserved) refl refl refl refl refl;
  terminal = refl;
}

backslash_lawful : IsLawful t.Backslash
unfolding start_of declaration_word expression_word left_out_word symbol_of is_reserved
backslash_lawful = record {
  piece = symbol_piece 92 ([]) (n.Token k.Reserved) refl refl refl refl refl;
  terminal = refl;
}

at_lawful : IsLawful t.At
unfolding start_of declaration_word expression_word left_out_word symbol_of is_reserved
at_lawful = record {
  piece = symbol_piece 64 ([]) (n.Token k.Reserved) refl refl refl refl refl;
  terminal = refl;
}

tilde_lawful : IsLawful t.Tilde
unfolding start_of declaration_word expression_word left_out_word symbol_of is_reserved
tilde_lawful = record {
  piece = symbol_piece 126 ([]) (n.Token k.Reserved) refl refl refl refl refl;
  terminal = refl;
}

double_colon_lawful : IsLawful t.DoubleColon
unfolding start_of declaration_word expression_word left_out_word symbol_of is_reserved
double_colon_lawful = record {
  piece = symbol_piece 58 (58 ∷ []) (n.Token k.Reserved) refl refl refl refl refl;
  terminal = refl;
}

dot_dot_lawful : IsLawful t.DotDot
unfolding start_of declaration_word expression_word left_out_word symbol_of is_reserved
dot_dot_lawful = record {
  piece = symbol_piece 46 (46 ∷ []) (n.Token k.Reserved) refl refl refl refl refl;
  terminal = refl;
}

double_arrow_lawful : IsLawful t.DoubleArrow
unfolding start_of declaration_word expression_word left_out_word symbol_of is_reserved
double_arrow_lawful = record {
  piece = symbol_piece 61 (62 ∷ []) (n.Token k.Reserved) refl refl refl refl refl;
  terminal = refl;
}

case_lawful : IsLawful (t.Word w.Case)
unfolding start_of declaration_word expression_word left_out_word symbol_of is_reserved
case_lawful = record {
  piece = small_piece 99 (97 ∷ 115 ∷ 101 ∷ []) (n.Token k.Reserved) refl refl refl refl;
  terminal = refl;
}

data_lawful : IsLawful (t.Word w.Data)
unfolding start_of declaration_word expression_word left_out_word symbol_of is_reserved
data_lawful = record {
  piece = small_piece 100 (97 ∷ 116 ∷ 97 ∷ []) (n.Token k.Reserved) refl refl refl refl;
  terminal = refl;
}

else_lawful : IsLawful (t.Word w.Else)
unfolding start_of declaration_word expression_word left_out_word symbol_of is_reserved
else_lawful = record {
  piece = small_piece 101 (108 ∷ 115 ∷ 101 ∷ []) (n.Token k.Reserved) refl refl refl refl;
  terminal = refl;
}

if_lawful : IsLawful (t.Word w.If)
unfolding start_of declaration_word expression_word left_out_word symbol_of is_reserved
if_lawful = record {
  piece = small_piece 105 (102 ∷ []) (n.Token k.Reserved) refl refl refl refl;
  terminal = refl;
}

import_lawful : IsLawful (t.Word w.Import)
unfolding start_of declaration_word expression_word left_out_word symbol_of is_reserved
import_lawful = record {
  piece = small_piece 105 (109 ∷ 112 ∷ 111 ∷ 114 ∷ 116 ∷ []) (n.Token k.Reserved) refl refl refl refl;
  terminal = refl;
}

in_lawful : IsLawful (t.Word w.In)
unfolding start_of declaration_word expression_word left_out_word symbol_of is_reserved
in_lawful = record {
  piece = small_piece 105 (110 ∷ []) (n.Token k.Reserved) refl refl refl refl;
  terminal = refl;
}

infix_lawful : IsLawful (t.Word w.Infix)
unfolding start_of declaration_word expression_word left_out_word symbol_of is_reserved
infix_lawful = record {
  piece = small_piece 105 (110 ∷ 102 ∷ 105 ∷ 120 ∷ []) (n.Token k.Reserved) refl refl refl refl;
  terminal = refl;
}

infixl_lawful : IsLawful (t.Word w.Infixl)
unfolding start_of declaration_word expression_word left_out_word symbol_of is_reserved
infixl_lawful = record {
  piece = small_piece 105 (110 ∷ 102 ∷ 105 ∷ 120 ∷ 108 ∷ []) (n.Token k.Reserved) refl refl refl refl;
  terminal = refl;
}

infixr_lawful : IsLawful (t.Word w.Infixr)
unfolding start_of declaration_word expression_word left_out_word symbol_of is_reserved
infixr_lawful = record {
  piece = small_piece 105 (110 ∷ 102 ∷ 105 ∷ 120 ∷ 114 ∷ []) (n.Token k.Reserved) refl refl refl refl;
  terminal = refl;
}

let_lawful : IsLawful (t.Word w.Let)
unfolding start_of declaration_word expression_word left_out_word symbol_of is_reserved
let_lawful = record {
  piece = small_piece 108 (101 ∷ 116 ∷ []) (n.Token k.Reserved) refl refl refl refl;
  terminal = refl;
}

module_lawful : IsLawful (t.Word w.Module)
unfolding start_of declaration_word expression_word left_out_word symbol_of is_reserved
module_lawful = record {
  piece = small_piece 109 (111 ∷ 100 ∷ 117 ∷ 108 ∷ 101 ∷ []) (n.Token k.Reserved) refl refl refl refl;
  terminal = refl;
}

newtype_lawful : IsLawful (t.Word w.Newtype)
unfolding start_of declaration_word expression_word left_out_word symbol_of is_reserved
newtype_lawful = record {
  piece = small_piece 110 (101 ∷ 119 ∷ 116 ∷ 121 ∷ 112 ∷ 101 ∷ []) (n.Token k.Reserved) refl refl refl refl;
  terminal = refl;
}

of_lawful : IsLawful (t.Word w.Of)
unfolding start_of declaration_word expression_word left_out_word symbol_of is_reserved
of_lawful = record {
  piece = small_piece 111 (102 ∷ []) (n.Token k.Reserved) refl refl refl refl;
  terminal = refl;
}

then_lawful : IsLawful (t.Word w.Then)
unfolding start_of declaration_word expression_word left_out_word symbol_of is_reserved
then_lawful = record {
  piece = small_piece 116 (104 ∷ 101 ∷ 110 ∷ []) (n.Token k.Reserved) refl refl refl refl;
  terminal = refl;
}

type_lawful : IsLawful (t.Word w.Type)
unfolding start_of declaration_word expression_word left_out_word symbol_of is_reserved
type_lawful = record {
  piece = small_piece 116 (121 ∷ 112 ∷ 101 ∷ []) (n.Token k.Reserved) refl refl refl refl;
  terminal = refl;
}

where_lawful : IsLawful (t.Word w.Where)
unfolding start_of declaration_word expression_word left_out_word symbol_of is_reserved
where_lawful = record {
  piece = small_piece 119 (104 ∷ 101 ∷ 114 ∷ 101 ∷ []) (n.Token k.Reserved) refl refl refl refl;
  terminal = refl;
}

-- what a reader knows by its form alone
pub fixed_lawful : (x : Terminal) → is_fixed x ≡ true → IsLawful x
fixed_lawful t.LeftParen e = left_paren_lawful
fixed_lawful t.RightParen e = right_paren_lawful
fixed_lawful t.Comma e = comma_lawful
fixed_lawful t.Semicolon e = semicolon_lawful
fixed_lawful t.LeftBracket e = left_bracket_lawful
fixed_lawful t.RightBracket e = right_bracket_lawful
fixed_lawful t.RightBrace e = right_brace_lawful
fixed_lawful t.Backquote e = backquote_lawful
fixed_lawful t.LeftBrace e = left_brace_lawful
fixed_lawful t.Underscore e = underscore_lawful
fixed_lawful t.Colon e = colon_lawful
fixed_lawful t.Arrow e = arrow_lawful
fixed_lawful t.LeftArrow e = left_arrow_lawful
fixed_lawful t.Equals e = equals_lawful
fixed_lawful t.Bar e = bar_lawful
fixed_lawful t.Backslash e = backslash_lawful
fixed_lawful t.At e = at_lawful
fixed_lawful t.Tilde e = tilde_lawful
fixed_lawful t.DoubleColon e = double_colon_lawful
fixed_lawful t.DotDot e = dot_dot_lawful
fixed_lawful t.DoubleArrow e = double_arrow_lawful
fixed_lawful (t.Word w.Case) e = case_lawful
fixed_lawful (t.Word w.Data) e = data_lawful
fixed_lawful (t.Word w.Else) e = else_lawful
fixed_lawful (t.Word w.If) e = if_lawful
fixed_lawful (t.Word w.Import) e = import_lawful
fixed_lawful (t.Word w.In) e = in_lawful
fixed_lawful (t.Word w.Infix) e = infix_lawful
fixed_lawful (t.Word w.Infixl) e = infixl_lawful
fixed_lawful (t.Word w.Infixr) e = infixr_lawful
fixed_lawful (t.Word w.Let) e = let_lawful
fixed_lawful (t.Word w.Module) e = module_lawful
fixed_lawful (t.Word w.Newtype) e = newtype_lawful
fixed_lawful (t.Word w.Of) e = of_lawful
fixed_lawful (t.Word w.Then) e = then_lawful
fixed_lawful (t.Word w.Type) e = type_lawful
fixed_lawful (t.Word w.Where) e = where_lawful
fixed_lawful (t.Word w.Class) e = cc
fixed_lawful (t.Word w.Default) e = cc
fixed_lawful (t.Word w.Deriving) e = cc
fixed_lawful (t.Word w.Do) e = cc
fixed_lawful (t.Word w.Foreign) e = cc
fixed_lawful (t.Word w.Instance) e = cc
fixed_lawful (t.Var name) e = cc
fixed_lawful (t.QVar name) e = cc
fixed_lawful (t.Con name) e = cc
fixed_lawful (t.VarSym name) e = cc
fixed_lawful (t.QVarSym name) e = cc
fixed_lawful (t.ConSym name) e = cc
fixed_lawful (t.Integer name) e = cc
fixed_lawful (t.Char name) e = cc
fixed_lawful (t.Text name) e = cc
fixed_lawful t.Other e = cc

-- a constructor's symbol by what it begins with
begun : (b : ℕ) (bs : List ℕ) (start : Start) → start_of b ≡ start
    → IsPiece (record { start = start; kind = n.Token k.ConSym; text = b ∷ bs })
    → IsPiece (record { start = start_of b; kind = n.Token k.ConSym; text = b ∷ bs })
begun b bs start at piece = subst (λ st. IsPiece (record { start = st; kind = n.Token k.ConSym; text = b ∷ bs })) (sym at) piece

-- names and literals
pub names_lawful : NamesAreLawful
names_lawful = record {
  var = λ b bs at names is bare. record {
    piece = small_piece b bs (n.Token k.Var) at names is refl;
    terminal = ap (λ v. named v (t.QVar (b ∷ bs)) (t.Var (b ∷ bs))) bare;
  };
  var_sym = λ b bs at symbols dashed is bare. record {
    piece = symbol_piece b bs (n.Token k.VarSym) at symbols dashed is refl;
    terminal = ap (λ v. named v (t.QVarSym (b ∷ bs)) (t.VarSym (b ∷ bs))) bare;
  };
  con_sym = λ b bs at symbols dashed is. record {
    piece = begun b bs s.Symbol at (symbol_piece b bs (n.Token k.ConSym) at symbols dashed is refl);
    terminal = refl;
  };
  con = λ b bs at is. record { piece = large_piece b bs (n.Token k.Con) at is refl; terminal = refl };
  qualified_var = λ b bs at is large. record {
    piece = large_piece b bs (n.Token k.Var) at is refl;
    terminal = ap (λ v. named v (t.QVar (b ∷ bs)) (t.Var (b ∷ bs))) large;
  };
  qualified_var_sym = λ b bs at is large. record {
    piece = large_piece b bs (n.Token k.VarSym) at is refl;
    terminal = ap (λ v. named v (t.QVarSym (b ∷ bs)) (t.VarSym (b ∷ bs))) large;
  };
  qualified_con_sym = λ b bs at is. record {
    piece = begun b bs s.Large at (large_piece b bs (n.Token k.ConSym) at is refl);
    terminal = refl;
  };
  integer = λ value h. record { piece = integer_stands value h; terminal = refl };
  character = λ code h. record { piece = character_stands code h; terminal = refl };
  string = λ text are. record { piece = string_stands text are; terminal = refl };
}
