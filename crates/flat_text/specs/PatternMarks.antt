-- Patterns and literals in the flat text (Haskell 2010 Report, sections 2.5, 2.6 and 3.17). Patterns are atoms.
use Rattle.std.specs.Prelude.{ℕ, Bool, true, false, List, [], ◌∷◌, ◌++◌}
use Rattle.std.specs.Fmt.{decimal}
use Rattle.hs_tokens.specs.Terminals.{minus}
use Rattle.hs_tokens.specs.declared.terminal.Terminal.TheVariants as t
use Rattle.hs_core.specs.declared.tree.Pat.{Pat}
use Rattle.hs_core.specs.declared.tree.Pat.TheVariants.{PVar, PWild, PInt, PChr, PStr, PCon', PTuple'}
use Rattle.hs_core.specs.declared.tree.Pat.TheVariants.{PList', PAs', PLazy'}
use Rattle.hs_core.specs.declared.tree.Pat.TheBlock.{Row_of-Pat, end_of-Pat, more_of-Pat}
use Rattle.flat_lex.specs.Literals.{char_bytes, string_bytes}
use Rattle.flat_text.specs.Marks.{Mark, Marks, bracketed, listed, parted, spaced}
use Rattle.flat_text.specs.Names.{bare_marks, global_marks}

abbrev pub integer_mark : ℕ → Mark
integer_mark value = Mark.word (t.Integer (decimal value))

abbrev pub char_mark : ℕ → Mark
char_mark code = Mark.word (t.Char (39 ∷ (char_bytes 39 code ++ 39 ∷ [])))

abbrev pub string_mark : List ℕ → Mark
string_mark text = Mark.word (t.Text (34 ∷ (string_bytes text ++ 34 ∷ [])))

-- `5` and `(-5)`
abbrev pub signed_marks : Bool → ℕ → Marks
signed_marks false value = integer_mark value ∷ []
signed_marks true value = bracketed (Mark.word (t.VarSym minus) ∷ integer_mark value ∷ [])

-- `C` and `(C p p)`
abbrev pub con_pat_marks : Marks → List Marks → Marks
con_pat_marks name [] = name
con_pat_marks name (arg ∷ args) = bracketed (name ++ spaced (arg ∷ args))

-- `x@p` and `(~p)`
abbrev pub as_marks : List ℕ → Marks → Marks
as_marks name pat = bare_marks name ++ Mark.word t.At ∷ pat

abbrev pub lazy_marks : Marks → Marks
lazy_marks pat = bracketed (Mark.word t.Tilde ∷ pat)

abbrev mutual
  pub pat_marks : Pat → Marks
  pat_marks (PVar name) = bare_marks name
  pat_marks PWild = Mark.word t.Underscore ∷ []
  pat_marks (PInt negative value) = signed_marks negative value
  pat_marks (PChr code) = char_mark code ∷ []
  pat_marks (PStr text) = string_mark text ∷ []
  pat_marks (PCon' name s ps) = con_pat_marks (global_marks name) (pats_marks ps)
  pat_marks (PTuple' s ps) = bracketed (parted (pats_marks ps))
  pat_marks (PList' s ps) = listed (parted (pats_marks ps))
  pat_marks (PAs' name s (more_of-Pat p end_of-Pat)) = as_marks name (pat_marks p)
  pat_marks (PLazy' s (more_of-Pat p end_of-Pat)) = lazy_marks (pat_marks p)

  pub pats_marks : {m : _} → Row_of-Pat m → List Marks
  pats_marks end_of-Pat = []
  pats_marks (more_of-Pat p ps) = pat_marks p ∷ pats_marks ps
