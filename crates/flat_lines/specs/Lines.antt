-- The lines of flat texts: a text of several modules is cut behind each line that begins with `}`.
use Rattle.std.specs.Prelude.{◌≡◌, ◌≤◌, ◌++◌, ℕ, Some, Bool, true, false, not, ◌&&◌, ◌||◌, ◌==◌, List, [], ◌∷◌, map}
use Rattle.std.specs.List.{flat_map}
use Rattle.std.specs.Fmt.{decimal}
use Rattle.hs_forms.specs.Limits.{all_of}
use Rattle.hs_tokens.specs.declared.terminal.Terminal.{Terminal}
use Rattle.hs_tokens.specs.declared.terminal.Terminal.TheVariants as t
use Rattle.hs_lex.specs.declared.class.Class.TheVariants as c
use Rattle.hs_lex.specs.declared.class.Start.TheVariants as s
use Rattle.hs_lex.specs.declared.kind.Kind.{Kind}
use Rattle.hs_lex.specs.Classes.{is_in, all, start_of}
use Rattle.hs_lex.specs.Lexicon.{capital}
use Rattle.flat_lex.specs.Literals.{char_bytes, string_bytes, AreCodes}
use Rattle.flat_lex.specs.Pieces.{text_of}
use Rattle.flat_text.specs.declared.flat.FlatModule.{FlatModule}
use Rattle.flat_text.specs.Marks.{Marks, seen, pieces_of, shape_of}
use Rattle.flat_text.specs.ModuleMarks.{module_marks}

abbrev pub put_before : ℕ → List (List ℕ) → List (List ℕ)
put_before b [] = (b ∷ []) ∷ []
put_before b (part ∷ parts) = (b ∷ part) ∷ parts

-- a byte that ends a part, or goes on with one
abbrev pub put_by : Bool → ℕ → List (List ℕ) → List (List ℕ)
put_by true b parts = (b ∷ []) ∷ parts
put_by false b parts = put_before b parts

-- The text's parts: each ends with a line that begins with `}`. Whether a line begins here, and whether one goes on
-- here that began so.
abbrev pub cut_at : Bool → Bool → List ℕ → List (List ℕ)
cut_at begins closing [] = []
cut_at begins closing (b ∷ bs) =
    put_by ((closing || (begins && b == 125)) && b == 10) b
    (cut_at (b == 10) ((closing || (begins && b == 125)) && not (b == 10)) bs)

abbrev pub cut_text : List ℕ → List (List ℕ)
cut_text text = cut_at true false text

-- a terminal that stands on one line, and begins with `}` only if it is that
abbrev pub is_brace : Terminal → Bool
is_brace t.RightBrace = true
is_brace _ = false

abbrev pub has_no_line_end : List ℕ → Bool
has_no_line_end [] = true
has_no_line_end (b ∷ bs) = not (b == 10) && has_no_line_end bs

abbrev pub starts_well : Bool → List ℕ → Bool
starts_well brace [] = false
starts_well brace (b ∷ bs) = brace || not (b == 125)

abbrev pub keeps_line : Terminal → Bool
keeps_line x = has_no_line_end (shape_of x).text && starts_well (is_brace x) (shape_of x).text

abbrev pub bytes_of : Marks → List ℕ
bytes_of ms = text_of (pieces_of ms)

abbrev pub flat_text : FlatModule → List ℕ
flat_text m = bytes_of (module_marks m)

-- Each name and literal of the module stands on one line, and none begins with `}`.
abbrev pub keeps_lines : FlatModule → Bool
keeps_lines m = all_of (map keeps_line (seen (module_marks m)))

-- Of such modules the texts, one behind the other, are cut into these texts again.
abbrev pub FlatTextsFallApart : Type 0
FlatTextsFallApart = (ms : List FlatModule) → all_of (map keeps_lines ms) ≡ true
    → cut_text (flat_map flat_text ms) ≡ map flat_text ms

-- Names and symbols, qualified and not, that the lexer's definitions know as such stand on one line, and so do the
-- literals that a printer writes.
pub record NamesKeepLines : Type 0 where
  pub var : (b : ℕ) (bs : List ℕ) → start_of b ≡ s.Small → all (is_in c.Name) bs ≡ true
      → keeps_line (t.Var (b ∷ bs)) ≡ true
  pub var_sym : (b : ℕ) (bs : List ℕ) → start_of b ≡ s.Symbol → all (is_in c.Symbol) bs ≡ true
      → keeps_line (t.VarSym (b ∷ bs)) ≡ true
  pub con_sym : (b : ℕ) (bs : List ℕ) → start_of b ≡ s.Symbol → all (is_in c.Symbol) bs ≡ true
      → keeps_line (t.ConSym (b ∷ bs)) ≡ true
  pub con : (b : ℕ) (bs : List ℕ) (kind : Kind) → start_of b ≡ s.Large → capital false bs [] ≡ Some kind
      → keeps_line (t.Con (b ∷ bs)) ≡ true
  pub qualified_var : (b : ℕ) (bs : List ℕ) (kind : Kind) → start_of b ≡ s.Large → capital false bs [] ≡ Some kind
      → keeps_line (t.QVar (b ∷ bs)) ≡ true
  pub qualified_var_sym : (b : ℕ) (bs : List ℕ) (kind : Kind) → start_of b ≡ s.Large
      → capital false bs [] ≡ Some kind → keeps_line (t.QVarSym (b ∷ bs)) ≡ true
  pub qualified_con_sym : (b : ℕ) (bs : List ℕ) (kind : Kind) → start_of b ≡ s.Large
      → capital false bs [] ≡ Some kind → keeps_line (t.ConSym (b ∷ bs)) ≡ true
  pub integer : (value : ℕ) → value ≤ 9223372036854775807 → keeps_line (t.Integer (decimal value)) ≡ true
  pub character : (code : ℕ) → code ≤ 1114111
      → keeps_line (t.Char (39 ∷ (char_bytes 39 code ++ 39 ∷ []))) ≡ true
  pub string : (text : List ℕ) → AreCodes text → keeps_line (t.Text (34 ∷ (string_bytes text ++ 34 ∷ []))) ≡ true
