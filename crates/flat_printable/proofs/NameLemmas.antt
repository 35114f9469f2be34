-- What the lexer reads as itself stands on one line.
use Rattle.std.proofs.Common.{◌≡◌, ◌⊎◌, inl, inr, ℕ, Bool, true, false, not, List, [], ◌∷◌, refl, sym, ap, ◌∙◌}
use Rattle.std.specs.Prelude.{◌&&◌, ◌||◌, Option, Some, None}
use Rattle.std.proofs.lemmas.Bool.{and_parts, or_cases, not-true}
use Rattle.hs_tokens.specs.declared.terminal.Terminal.{Terminal}
use Rattle.hs_tokens.specs.declared.terminal.Terminal.TheVariants as t
use Rattle.hs_tokens.specs.declared.token.TokenKind.{TokenKind}
use Rattle.hs_tokens.specs.declared.token.TokenKind.TheVariants as k
use Rattle.hs_tokens.specs.declared.word.Word.TheVariants as w
use Rattle.hs_tokens.specs.Terminals.{is_qualified}
use Rattle.hs_lex.specs.declared.class.Class.TheVariants as c
use Rattle.hs_lex.specs.declared.class.Start.{Start}
use Rattle.hs_lex.specs.declared.class.Start.TheVariants as s
use Rattle.hs_lex.specs.declared.kind.Kind.{Kind}
use Rattle.hs_lex.specs.declared.kind.Kind.TheVariants as n
use Rattle.hs_lex.specs.Classes.{is_in, all, start_of}
use Rattle.hs_lex.specs.Words.{word_kind, symbol_kind}
use Rattle.hs_lex.specs.Lexicon.{capital, is_dashed}
use Rattle.flat_laws.specs.Reading.{IsLawful}
use Rattle.flat_laws.proofs.LawfulLemmas.{fixed_lawful, names_lawful}
use Rattle.flat_lines.proofs.KeepLemmas.{names_kept}
use Rattle.flat_printable.specs.Names.{is_small, is_large, is_symbolic, is_var, is_con, is_var_sym, is_con_sym}
use Rattle.flat_printable.specs.Names.{is_token, makes, is_var_name, is_symbol_name, is_large_name, is_lawful_name}
use Rattle.flat_printable.proofs.LiteralLemmas.{IsRead, with_literal}

-- ---- what the tests say

small_is : (start : Start) → is_small start ≡ true → start ≡ s.Small
small_is s.Small e = refl
small_is s.Large e = cc
small_is s.Digit e = cc
small_is s.White e = cc
small_is s.Brace e = cc
small_is s.Special e = cc
small_is s.Symbol e = cc
small_is s.Quote e = cc
small_is s.DoubleQuote e = cc
small_is s.Other e = cc

large_is : (start : Start) → is_large start ≡ true → start ≡ s.Large
large_is s.Small e = cc
large_is s.Large e = refl
large_is s.Digit e = cc
large_is s.White e = cc
large_is s.Brace e = cc
large_is s.Special e = cc
large_is s.Symbol e = cc
large_is s.Quote e = cc
large_is s.DoubleQuote e = cc
large_is s.Other e = cc

symbolic_is : (start : Start) → is_symbolic start ≡ true → start ≡ s.Symbol
symbolic_is s.Small e = cc
symbolic_is s.Large e = cc
symbolic_is s.Digit e = cc
symbolic_is s.White e = cc
symbolic_is s.Brace e = cc
symbolic_is s.Special e = cc
symbolic_is s.Symbol e = refl
symbolic_is s.Quote e = cc
symbolic_is s.DoubleQuote e = cc
symbolic_is s.Other e = cc

-- a test that one kind alone passes
abbrev Only : (TokenKind → Bool) → TokenKind → Type 0
Only test kind = (other : TokenKind) → test other ≡ true → other ≡ kind

only_var : Only is_var k.Var
only_var k.Var e = refl
only_var k.Con e = cc
only_var k.VarSym e = cc
only_var k.ConSym e = cc
only_var k.Reserved e = cc
only_var k.Special e = cc
only_var k.Integer e = cc
only_var k.Char e = cc
only_var k.Text e = cc

only_con : Only is_con k.Con
only_con k.Var e = cc
only_con k.Con e = refl
only_con k.VarSym e = cc
only_con k.ConSym e = cc
only_con k.Reserved e = cc
only_con k.Special e = cc
only_con k.Integer e = cc
only_con k.Char e = cc
only_con k.Text e = cc

only_var_sym : Only is_var_sym k.VarSym
only_var_sym k.Var e = cc
only_var_sym k.Con e = cc
only_var_sym k.VarSym e = refl
only_var_sym k.ConSym e = cc
only_var_sym k.Reserved e = cc
only_var_sym k.Special e = cc
only_var_sym k.Integer e = cc
only_var_sym k.Char e = cc
only_var_sym k.Text e = cc

only_con_sym : Only is_con_sym k.ConSym
only_con_sym k.Var e = cc
only_con_sym k.Con e = cc
only_con_sym k.VarSym e = cc
only_con_sym k.ConSym e = refl
only_con_sym k.Reserved e = cc
only_con_sym k.Special e = cc
only_con_sym k.Integer e = cc
only_con_sym k.Char e = cc
only_con_sym k.Text e = cc

token_is : (test : TokenKind → Bool) (kind : TokenKind) → Only test kind → (made : Kind) → is_token test made ≡ true
    → made ≡ n.Token kind
token_is test kind only (n.Token other) e = ap n.Token (only other e)
token_is test kind only n.White e = cc
token_is test kind only n.Comment e = cc
token_is test kind only n.LeftOut e = cc
token_is test kind only n.Broken e = cc

makes_is : (test : TokenKind → Bool) (kind : TokenKind) → Only test kind → (made : Option Kind)
    → makes test made ≡ true → made ≡ Some (n.Token kind)
makes_is test kind only (Some made) e = ap Some (token_is test kind only made e)
makes_is test kind only None e = cc

-- ---- names, by their parts

record VarParts (b : ℕ) (bs : List ℕ) : Type 0 where
  start : start_of b ≡ s.Small
  goes_on : all (is_in c.Name) bs ≡ true
  kind : word_kind (b ∷ bs) ≡ n.Token k.Var
  plain : is_qualified (b ∷ bs) ≡ false

var_parts : (b : ℕ) (bs : List ℕ) → is_var_name (b ∷ bs) ≡ true → VarParts b bs
var_parts b bs e =
    let one = and_parts (is_small (start_of b)) _ e in
    let two = and_parts (all (is_in c.Name) bs) _ one.1 in
    let three = and_parts (is_token is_var (word_kind (b ∷ bs))) (not (is_qualified (b ∷ bs))) two.1 in
    record {
      start = small_is (start_of b) one.0;
      goes_on = two.0;
      kind = token_is is_var k.Var only_var (word_kind (b ∷ bs)) three.0;
      plain = not-true (is_qualified (b ∷ bs)) three.1;
    }

record SymbolParts (kind : TokenKind) (b : ℕ) (bs : List ℕ) : Type 0 where
  start : start_of b ≡ s.Symbol
  goes_on : all (is_in c.Symbol) bs ≡ true
  no_comment : is_dashed b bs ≡ false
  made : symbol_kind (b ∷ bs) ≡ n.Token kind

symbol_parts : (test : TokenKind → Bool) (kind : TokenKind) → Only test kind → (b : ℕ) (bs : List ℕ)
    → is_symbol_name test (b ∷ bs) ≡ true → SymbolParts kind b bs
symbol_parts test kind only b bs e =
    let one = and_parts (is_symbolic (start_of b)) _ e in
    let two = and_parts (all (is_in c.Symbol) bs) _ one.1 in
    let three = and_parts (not (is_dashed b bs)) (is_token test (symbol_kind (b ∷ bs))) two.1 in
    record {
      start = symbolic_is (start_of b) one.0;
      goes_on = two.0;
      no_comment = not-true (is_dashed b bs) three.0;
      made = token_is test kind only (symbol_kind (b ∷ bs)) three.1;
    }

record LargeParts (kind : TokenKind) (b : ℕ) (bs : List ℕ) : Type 0 where
  start : start_of b ≡ s.Large
  made : capital false bs [] ≡ Some (n.Token kind)

large_parts : (test : TokenKind → Bool) (kind : TokenKind) → Only test kind → (b : ℕ) (bs : List ℕ)
    → is_large_name test (b ∷ bs) ≡ true → LargeParts kind b bs
large_parts test kind only b bs e =
    let one = and_parts (is_large (start_of b)) (makes test (capital false bs [])) e in
    record {
      start = large_is (start_of b) one.0;
      made = makes_is test kind only (capital false bs []) one.1;
    }

-- ---- each terminal that is a name

var_read : (name : List ℕ) → is_var_name name ≡ true → IsRead (t.Var name)
var_read [] e = cc
var_read (b ∷ bs) e = let it = var_parts b bs e in record {
  lawful = names_lawful.var b bs it.start it.goes_on it.kind it.plain;
  keeps = names_kept.var b bs it.start it.goes_on;
}

qualified_var_read : (name : List ℕ) → is_large_name is_var name && is_qualified name ≡ true → IsRead (t.QVar name)
qualified_var_read [] e = cc
qualified_var_read (b ∷ bs) e =
    let h = and_parts (is_large_name is_var (b ∷ bs)) (is_qualified (b ∷ bs)) e in
    let it = large_parts is_var k.Var only_var b bs h.0 in
    record {
      lawful = names_lawful.qualified_var b bs it.start it.made h.1;
      keeps = names_kept.qualified_var b bs (n.Token k.Var) it.start it.made;
    }

con_read : (name : List ℕ) → is_large_name is_con name ≡ true → IsRead (t.Con name)
con_read [] e = cc
con_read (b ∷ bs) e = let it = large_parts is_con k.Con only_con b bs e in record {
  lawful = names_lawful.con b bs it.start it.made;
  keeps = names_kept.con b bs (n.Token k.Con) it.start it.made;
}

var_sym_read : (name : List ℕ) → is_symbol_name is_var_sym name && not (is_qualified name) ≡ true
    → IsRead (t.VarSym name)
var_sym_read [] e = cc
var_sym_read (b ∷ bs) e =
    let h = and_parts (is_symbol_name is_var_sym (b ∷ bs)) (not (is_qualified (b ∷ bs))) e in
    let it = symbol_parts is_var_sym k.VarSym only_var_sym b bs h.0 in
    record {
      lawful = names_lawful.var_sym b bs it.start it.goes_on it.no_comment it.made
          (not-true (is_qualified (b ∷ bs)) h.1);
      keeps = names_kept.var_sym b bs it.start it.goes_on;
    }

qualified_sym_read : (name : List ℕ) → is_large_name is_var_sym name && is_qualified name ≡ true
    → IsRead (t.QVarSym name)
qualified_sym_read [] e = cc
qualified_sym_read (b ∷ bs) e =
    let h = and_parts (is_large_name is_var_sym (b ∷ bs)) (is_qualified (b ∷ bs)) e in
    let it = large_parts is_var_sym k.VarSym only_var_sym b bs h.0 in
    record {
      lawful = names_lawful.qualified_var_sym b bs it.start it.made h.1;
      keeps = names_kept.qualified_var_sym b bs (n.Token k.VarSym) it.start it.made;
    }

con_sym_read : (name : List ℕ) → is_symbol_name is_con_sym name || is_large_name is_con_sym name ≡ true
    → IsRead (t.ConSym name)
con_sym_read [] e = cc
con_sym_read (b ∷ bs) e = by (or_cases (is_symbol_name is_con_sym (b ∷ bs)) (is_large_name is_con_sym (b ∷ bs)) e)
  where
    by : (is_symbol_name is_con_sym (b ∷ bs) ≡ true) ⊎ (is_large_name is_con_sym (b ∷ bs) ≡ true)
        → IsRead (t.ConSym (b ∷ bs))
    by (inl h) = let it = symbol_parts is_con_sym k.ConSym only_con_sym b bs h in record {
      lawful = names_lawful.con_sym b bs it.start it.goes_on it.no_comment it.made;
      keeps = names_kept.con_sym b bs it.start it.goes_on;
    }
    by (inr h) = let it = large_parts is_con_sym k.ConSym only_con_sym b bs h in record {
      lawful = names_lawful.qualified_con_sym b bs it.start it.made;
      keeps = names_kept.qualified_con_sym b bs (n.Token k.ConSym) it.start it.made;
    }

-- ---- all terminals

-- A terminal whose name is lawful, or that is a literal which is read, is read.
pub terminal_read : (x : Terminal) (rest : Type 0) → is_lawful_name x ≡ true → with_literal x rest → IsRead x
terminal_read (t.Var name) rest e h = var_read name e
terminal_read (t.QVar name) rest e h = qualified_var_read name e
terminal_read (t.Con name) rest e h = con_read name e
terminal_read (t.VarSym name) rest e h = var_sym_read name e
terminal_read (t.QVarSym name) rest e h = qualified_sym_read name e
terminal_read (t.ConSym name) rest e h = con_sym_read name e
terminal_read (t.Integer digits) rest e h = h.0
terminal_read (t.Char literal) rest e h = h.0
terminal_read (t.Text literal) rest e h = h.0
terminal_read (t.Word w.Case) rest e h = record { lawful = fixed_lawful (t.Word w.Case) refl; keeps = refl }
terminal_read (t.Word w.Class) rest e h = cc
terminal_read (t.Word w.Data) rest e h = record { lawful = fixed_lawful (t.Word w.Data) refl; keeps = refl }
terminal_read (t.Word w.Default) rest e h = cc
terminal_read (t.Word w.Deriving) rest e h = cc
terminal_read (t.Word w.Do) rest e h = cc
terminal_read (t.Word w.Else) rest e h = record { lawful = fixed_lawful (t.Word w.Else) refl; keeps = refl }
terminal_read (t.Word w.Foreign) rest e h = cc
terminal_read (t.Word w.If) rest e h = record { lawful = fixed_lawful (t.Word w.If) refl; keeps = refl }
terminal_read (t.Word w.Import) rest e h = record { lawful = fixed_lawful (t.Word w.Import) refl; keeps = refl }
terminal_read (t.Word w.In) rest e h = record { lawful = fixed_lawful (t.Word w.In) refl; keeps = refl }
terminal_read (t.Word w.Infix) rest e h = record { lawful = fixed_lawful (t.Word w.Infix) refl; keeps = refl }
terminal_read (t.Word w.Infixl) rest e h = record { lawful = fixed_lawful (t.Word w.Infixl) refl; keeps = refl }
terminal_read (t.Word w.Infixr) rest e h = record { lawful = fixed_lawful (t.Word w.Infixr) refl; keeps = refl }
terminal_read (t.Word w.Instance) rest e h = cc
terminal_read (t.Word w.Let) rest e h = record { lawful = fixed_lawful (t.Word w.Let) refl; keeps = refl }
terminal_read (t.Word w.Module) rest e h = record { lawful = fixed_lawful (t.Word w.Module) refl; keeps = refl }
terminal_read (t.Word w.Newtype) rest e h = record { lawful = fixed_lawful (t.Word w.Newtype) refl; keeps = refl }
terminal_read (t.Word w.Of) rest e h = record { lawful = fixed_lawful (t.Word w.Of) refl; keeps = refl }
terminal_read (t.Word w.Then) rest e h = record { lawful = fixed_lawful (t.Word w.Then) refl; keeps = refl }
terminal_read (t.Word w.Type) rest e h = record { lawful = fixed_lawful (t.Word w.Type) refl; keeps = refl }
terminal_read (t.Word w.Where) rest e h = record { lawful = fixed_lawful (t.Word w.Where) refl; keeps = refl }
terminal_read t.LeftParen rest e h = record { lawful = fixed_lawful t.LeftParen refl; keeps = refl }
terminal_read t.RightParen rest e h = record { lawful = fixed_lawful t.RightParen refl; keeps = refl }
terminal_read t.Comma rest e h = record { lawful = fixed_lawful t.Comma refl; keeps = refl }
terminal_read t.Semicolon rest e h = record { lawful = fixed_lawful t.Semicolon refl; keeps = refl }
terminal_read t.LeftBracket rest e h = record { lawful = fixed_lawful t.LeftBracket refl; keeps = refl }
terminal_read t.RightBracket rest e h = record { lawful = fixed_lawful t.RightBracket refl; keeps = refl }
terminal_read t.LeftBrace rest e h = record { lawful = fixed_lawful t.LeftBrace refl; keeps = refl }
terminal_read t.RightBrace rest e h = record { lawful = fixed_lawful t.RightBrace refl; keeps = refl }
terminal_read t.Backquote rest e h = record { lawful = fixed_lawful t.Backquote refl; keeps = refl }
terminal_read t.Underscore rest e h = record { lawful = fixed_lawful t.Underscore refl; keeps = refl }
terminal_read t.Colon rest e h = record { lawful = fixed_lawful t.Colon refl; keeps = refl }
terminal_read t.Arrow rest e h = record { lawful = fixed_lawful t.Arrow refl; keeps = refl }
terminal_read t.LeftArrow rest e h = record { lawful = fixed_lawful t.LeftArrow refl; keeps = refl }
terminal_read t.Equals rest e h = record { lawful = fixed_lawful t.Equals refl; keeps = refl }
terminal_read t.Bar rest e h = record { lawful = fixed_lawful t.Bar refl; keeps = refl }
terminal_read t.Backslash rest e h = record { lawful = fixed_lawful t.Backslash refl; keeps = refl }
terminal_read t.At rest e h = record { lawful = fixed_lawful t.At refl; keeps = refl }
terminal_read t.Tilde rest e h = record { lawful = fixed_lawful t.Tilde refl; keeps = refl }
terminal_read t.DoubleColon rest e h = record { lawful = fixed_lawful t.DoubleColon refl; keeps = refl }
terminal_read t.DotDot rest e h = record { lawful = fixed_lawful t.DotDot refl; keeps = refl }
terminal_read t.DoubleArrow rest e h = record { lawful = fixed_lawful t.DoubleArrow refl; keeps = refl }
terminal_read t.Other rest e h = cc
