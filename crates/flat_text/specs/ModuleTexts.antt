-- The bytes of a module.
use Rattle.std.specs.Prelude.{ℕ, List, [], ◌++◌, map, codes}
use Rattle.std.specs.List.{flat_map}
use Rattle.hs_core.specs.declared.tree.Decl.{Decl}
use Rattle.flat_text.specs.declared.flat.FlatExport.{FlatExport}
use Rattle.flat_text.specs.Marks.{written}
use Rattle.flat_text.specs.Texts.{led_text}
use Rattle.flat_text.specs.ExpressionMarks.{decl_marks}
use Rattle.flat_text.specs.ModuleMarks.{export_marks}

abbrev pub export_text : FlatExport → List ℕ
export_text export = written (export_marks export)

unfoldable pub exports_text : List FlatExport → List ℕ
exports_text exports = led_text [] (codes ", ") (map export_text exports)

abbrev pub head_text : List ℕ → List FlatExport → List ℕ
head_text name exports = codes "module " ++ (name ++ (codes " (" ++ (exports_text exports ++ codes ") where {\n")))

unfoldable pub import_text : List ℕ → List ℕ
import_text name = codes "import qualified " ++ (name ++ codes ";\n")

abbrev pub imports_text : List (List ℕ) → List ℕ
imports_text imports = flat_map import_text imports

abbrev pub line_text : Decl → List ℕ
line_text decl = written (decl_marks decl) ++ codes ";\n"

unfoldable pub lines_text : List Decl → List ℕ
lines_text decls = flat_map line_text decls
