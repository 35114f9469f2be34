-- What a reader finds in texts of marks.
use Rattle.std.specs.Prelude.{◌≡◌, ◌≤◌, ◌++◌, Some, ℕ, Bool, true, false, not, List, [], ◌∷◌, length, map, Ok}
use Rattle.hs_tokens.specs.declared.token.Token.{Token}
use Rattle.hs_tokens.specs.declared.terminal.Terminal.{Terminal}
use Rattle.hs_tokens.specs.Terminals.{terminal_by, terminal_of, is_qualified}
use Rattle.hs_tokens.specs.declared.terminal.Terminal.TheVariants as t
use Rattle.hs_tokens.specs.Words.{is_left_out}
use Rattle.hs_tokens.specs.declared.token.TokenKind.TheVariants as k
use Rattle.hs_lex.specs.declared.class.Class.TheVariants as c
use Rattle.hs_lex.specs.declared.class.Start.TheVariants as s
use Rattle.hs_lex.specs.declared.kind.Kind.TheVariants as n
use Rattle.hs_lex.specs.Classes.{is_in, all, start_of}
use Rattle.hs_lex.specs.Words.{word_kind, symbol_kind}
use Rattle.hs_lex.specs.Lexicon.{capital, is_dashed}
use Rattle.hs_lex.specs.Cover.{Covered}
use Rattle.std.specs.Fmt.{decimal}
use Rattle.flat_lex.specs.Literals.{char_bytes, string_bytes, AreCodes}
use Rattle.haskell_layout.specs.Layout.{layout_of}
use Rattle.flat_lex.specs.Pieces.{IsPiece, IsSpaced, text_of}
use Rattle.flat_text.specs.declared.flat.FlatModule.{FlatModule}
use Rattle.flat_text.specs.Marks.{Mark, Marks, seen, shape_of, piece_of, pieces_of}
use Rattle.flat_text.specs.ModuleMarks.{module_marks}

-- a terminal whose text is read as it, and as nothing else, wherever nothing follows that goes on with it
pub record IsLawful (x : Terminal) : Type 0 where
  pub piece : IsPiece (piece_of (Mark.word x))
  pub terminal : terminal_by (shape_of x).kind (shape_of x).text ≡ x

-- what a reader knows by its form alone: brackets, separators, reserved symbols, and the words of this project's
-- profile
abbrev pub is_fixed : Terminal → Bool
is_fixed (t.Var name) = false
is_fixed (t.QVar name) = false
is_fixed (t.Con name) = false
is_fixed (t.VarSym name) = false
is_fixed (t.QVarSym name) = false
is_fixed (t.ConSym name) = false
is_fixed (t.Integer digits) = false
is_fixed (t.Char literal) = false
is_fixed (t.Text literal) = false
is_fixed (t.Word reserved) = not (is_left_out reserved)
is_fixed t.Other = false
is_fixed _ = true

-- Each name and literal is lawful.
abbrev pub AreLawful : List Terminal → Type 0
AreLawful [] = Unit {0}
AreLawful (x ∷ xs) = (is_fixed x ≡ false → IsLawful x) × AreLawful xs

-- the terminals of the text are these
pub record ReadsAs (text : List ℕ) (terminals : List Terminal) : Type 0 where
  pub tokens : List Token
  pub covered : Covered text tokens
  pub terminals_are : map terminal_of tokens ≡ terminals

abbrev pub MarksAreRead : Type 0
MarksAreRead = (ms : Marks) → AreLawful (seen ms) → IsSpaced (pieces_of ms) → ReadsAs (text_of (pieces_of ms)) (seen ms)

-- the tokens of the text are these terminals, and are their own layout
pub record ReadsLaidOut (text : List ℕ) (terminals : List Terminal) : Type 0 where
  pub tokens : List Token
  pub covered : Covered text tokens
  pub laid_out : layout_of tokens (length text) ≡ Ok tokens
  pub terminals_are : map terminal_of tokens ≡ terminals

-- The flat text of a module is read as the terminals of its marks.
abbrev pub FlatTextIsRead : Type 0
FlatTextIsRead = (m : FlatModule) → AreLawful (seen (module_marks m))
    → ReadsLaidOut (text_of (pieces_of (module_marks m))) (seen (module_marks m))

-- No two marks of a module touch that could be read as one.
abbrev pub FlatTextIsSpaced : Type 0
FlatTextIsSpaced = (m : FlatModule) → IsSpaced (pieces_of (module_marks m))

-- Which names and literals are lawful: names and symbols, qualified and not, of which the lexer's definitions say what they are, and
-- the literals that a printer writes.
pub record NamesAreLawful : Type 0 where
  pub var : (b : ℕ) (bs : List ℕ) → start_of b ≡ s.Small → all (is_in c.Name) bs ≡ true
      → word_kind (b ∷ bs) ≡ n.Token k.Var → is_qualified (b ∷ bs) ≡ false → IsLawful (t.Var (b ∷ bs))
  pub var_sym : (b : ℕ) (bs : List ℕ) → start_of b ≡ s.Symbol → all (is_in c.Symbol) bs ≡ true → is_dashed b bs ≡ false
      → symbol_kind (b ∷ bs) ≡ n.Token k.VarSym → is_qualified (b ∷ bs) ≡ false → IsLawful (t.VarSym (b ∷ bs))
  pub con_sym : (b : ℕ) (bs : List ℕ) → start_of b ≡ s.Symbol → all (is_in c.Symbol) bs ≡ true → is_dashed b bs ≡ false
      → symbol_kind (b ∷ bs) ≡ n.Token k.ConSym → IsLawful (t.ConSym (b ∷ bs))
  pub con : (b : ℕ) (bs : List ℕ) → start_of b ≡ s.Large → capital false bs [] ≡ Some (n.Token k.Con)
      → IsLawful (t.Con (b ∷ bs))
  pub qualified_var : (b : ℕ) (bs : List ℕ) → start_of b ≡ s.Large → capital false bs [] ≡ Some (n.Token k.Var)
      → is_qualified (b ∷ bs) ≡ true → IsLawful (t.QVar (b ∷ bs))
  pub qualified_var_sym : (b : ℕ) (bs : List ℕ) → start_of b ≡ s.Large → capital false bs [] ≡ Some (n.Token k.VarSym)
      → is_qualified (b ∷ bs) ≡ true → IsLawful (t.QVarSym (b ∷ bs))
  pub qualified_con_sym : (b : ℕ) (bs : List ℕ) → start_of b ≡ s.Large → capital false bs [] ≡ Some (n.Token k.ConSym)
      → IsLawful (t.ConSym (b ∷ bs))
  pub integer : (value : ℕ) → value ≤ 9223372036854775807 → IsLawful (t.Integer (decimal value))
  pub character : (code : ℕ) → code ≤ 1114111 → IsLawful (t.Char (39 ∷ (char_bytes 39 code ++ 39 ∷ [])))
  pub string : (text : List ℕ) → AreCodes text → IsLawful (t.Text (34 ∷ (string_bytes text ++ 34 ∷ [])))
