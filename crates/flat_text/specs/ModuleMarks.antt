-- A module of the flat program as marks (Haskell 2010 Report, section 5).
use Rattle.std.specs.Prelude.{ℕ, List, [], ◌∷◌, ◌++◌, map, codes}
use Rattle.std.specs.List.{flat_map}
use Rattle.hs_tokens.specs.declared.terminal.Terminal.TheVariants as t
use Rattle.hs_tokens.specs.declared.word.Word.TheVariants as w
use Rattle.hs_core.specs.declared.tree.Decl.{Decl}
use Rattle.flat_text.specs.declared.flat.FlatExport.{FlatExport}
use Rattle.flat_text.specs.declared.flat.FlatModule.{FlatModule}
use Rattle.flat_text.specs.Marks.{Mark, Marks, space, line_end, keyword, bracketed, parted}
use Rattle.flat_text.specs.Names.{con_marks, flat_marks}
use Rattle.flat_text.specs.ExpressionMarks.{decl_marks}

-- `(C, D)`
abbrev pub cons_marks : List (List ℕ) → Marks
cons_marks [] = []
cons_marks (con ∷ cons) = bracketed (parted (map con_marks (con ∷ cons)))

-- `U0.M.x` and `U0.M.T(C, D)`
abbrev pub export_marks : FlatExport → Marks
export_marks export = flat_marks export.name ++ cons_marks export.cons

-- `module U0.M (U0.M.x, U0.M.y) where {`
abbrev pub head_marks : List ℕ → List FlatExport → Marks
head_marks name exports =
    keyword w.Module ∷ space ∷ Mark.word (t.Con name) ∷ space ∷ (bracketed (parted (map export_marks exports))
    ++ space ∷ keyword w.Where ∷ space ∷ Mark.word t.LeftBrace ∷ line_end ∷ [])

-- `import qualified U0.M;`
abbrev pub import_marks : List ℕ → Marks
import_marks name =
    keyword w.Import ∷ space ∷ Mark.word (t.Var (codes "qualified")) ∷ space ∷ Mark.word (t.Con name)
    ∷ Mark.word t.Semicolon ∷ line_end ∷ []

-- a declaration on its line
abbrev pub line_marks : Decl → Marks
line_marks decl = decl_marks decl ++ Mark.word t.Semicolon ∷ line_end ∷ []

-- The module: its head, the import of `Prelude`, the other imports, its declarations, and the closing brace, each on a
-- line.
abbrev pub module_marks : FlatModule → Marks
module_marks m =
    head_marks m.name m.exports ++ (import_marks (codes "Prelude") ++ (flat_map import_marks m.imports
    ++ (flat_map line_marks m.decls ++ Mark.word t.RightBrace ∷ line_end ∷ [])))
