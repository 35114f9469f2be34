-- The bytes of a module.
use Rattle.std.proofs.Common.{◌≡◌, ℕ, false, List, [], ◌∷◌, ◌++◌, length, refl, sym, ap, ◌∙◌}
use Rattle.std.proofs.Common.{append_assoc, arith}
use Rattle.std.specs.Prelude.{map, codes, not, ◌==◌}
use Rattle.std.specs.List.{flat_map}
use Rattle.std.proofs.lemmas.Bool.Decides.{nat_tests}
use Rattle.hs_tokens.specs.declared.terminal.Terminal.TheVariants as t
use Rattle.hs_tokens.specs.declared.word.Word.TheVariants as w
use Rattle.hs_core.specs.declared.tree.Decl.{Decl}
use Rattle.flat_lex.specs.Pieces.{text_of}
use Rattle.flat_text.specs.declared.flat.FlatExport.{FlatExport}
use Rattle.flat_text.specs.declared.flat.FlatModule.{FlatModule}
use Rattle.flat_text.specs.Marks.{Mark, Marks, space, keyword, line_end, written, parted, pieces_of}
use Rattle.flat_text.specs.Names.{con_marks, flat_marks}
use Rattle.flat_text.specs.Texts.{close_text, flat_text}
use Rattle.flat_text.specs.ExpressionMarks.{decl_marks}
use Rattle.flat_text.specs.ExpressionTexts.{names_text}
use Rattle.flat_text.specs.ModuleMarks.{cons_marks, export_marks, head_marks, import_marks, line_marks, module_marks}
use Rattle.flat_text.specs.ModuleTexts.{exports_text, head_text, import_text, imports_text, line_text}
use Rattle.flat_text.specs.ModuleTexts.{lines_text}
use Rattle.flat_text.proofs.TextLemmas.{written_append, written_bracketed, written_parts, written_flat, nothing_is}
use Rattle.flat_text.proofs.TextLemmas.{comma_is, pushed_five, written_con}
use Rattle.flat_text.proofs.DeclarationLemmas.{led_names}

some_cons : (con : List ℕ) (cons : List (List ℕ)) → (length (con ∷ cons) == 0) ≡ false
some_cons con cons = grind (arith, nat_tests)

-- constructors in brackets, where there are some
cons_text : (cons : List (List ℕ)) → written (cons_marks cons)
    ≡ names_text (codes "(") (codes ", ") cons ++ close_text (not (length cons == 0))
unfolding names_text written
cons_text [] = refl
cons_text (con ∷ cons) =
    written_bracketed (parted (map con_marks (con ∷ cons)))
    ∙ ap (λ v. codes "(" ++ (v ++ codes ")"))
    (led_names con_marks written_con [] (Mark.word t.Comma ∷ space ∷ []) [] (codes ", ") nothing_is comma_is
    (con ∷ cons))
    ∙ ap (λ v. names_text (codes "(") (codes ", ") (con ∷ cons) ++ close_text (not v)) (sym (some_cons con cons))

pub text_export : (export : FlatExport) → written (export_marks export) ≡ flat_text export.name
    ++ (names_text (codes "(") (codes ", ") export.cons ++ close_text (not (length export.cons == 0)))
text_export export =
    written_append (flat_marks export.name) (cons_marks export.cons)
    ∙ (λ i. written_flat export.name i ++ cons_text export.cons i)

pub ruleset export_texts = (text_export)

parted_exports : (exports : List FlatExport) → written (parted (map export_marks exports)) ≡ exports_text exports
unfolding exports_text
parted_exports exports = written_parts [] (Mark.word t.Comma ∷ space ∷ []) [] (codes ", ") nothing_is comma_is
    export_marks exports

abbrev bracket_end : Marks
bracket_end = Mark.word t.RightParen ∷ []

abbrev head_end : Marks
head_end = space ∷ keyword w.Where ∷ space ∷ Mark.word t.LeftBrace ∷ line_end ∷ []

head_is : (name : List ℕ) (exports : List FlatExport) → written (head_marks name exports) ≡ head_text name exports
unfolding written
head_is name exports =
    ap (λ v. codes "module " ++ (name ++ (codes " (" ++ v)))
    (written_append (parted (map export_marks exports) ++ bracket_end) head_end
    ∙ ap (λ v. v ++ written head_end) (written_append (parted (map export_marks exports)) bracket_end)
    ∙ append_assoc (written (parted (map export_marks exports))) (written bracket_end) (written head_end)
    ∙ ap (λ v. v ++ codes ") where {\n") (parted_exports exports))

import_is : (name : List ℕ) → written (import_marks name) ≡ import_text name
unfolding written import_text
import_is name = refl

imports_are : (imports : List (List ℕ)) → written (flat_map import_marks imports) ≡ imports_text imports
unfolding written
imports_are [] = refl
imports_are (name ∷ imports) =
    written_append (import_marks name) (flat_map import_marks imports)
    ∙ (λ i. import_is name i ++ imports_are imports i)

line_is : (decl : Decl) → written (line_marks decl) ≡ line_text decl
unfolding written
line_is decl = written_append (decl_marks decl) (Mark.word t.Semicolon ∷ line_end ∷ [])

lines_are : (decls : List Decl) → written (flat_map line_marks decls) ≡ lines_text decls
unfolding written lines_text
lines_are [] = refl
lines_are (decl ∷ decls) =
    written_append (line_marks decl) (flat_map line_marks decls) ∙ (λ i. line_is decl i ++ lines_are decls i)

abbrev last_line : Marks
last_line = Mark.word t.RightBrace ∷ line_end ∷ []

last_is : written last_line ≡ codes "}\n"
unfolding written
last_is = refl

module_is : (m : FlatModule) → written (module_marks m) ≡ head_text m.name m.exports
    ++ (import_text (codes "Prelude") ++ (imports_text m.imports ++ (lines_text m.decls ++ codes "}\n")))
module_is m =
    written_append (head_marks m.name m.exports)
    (import_marks (codes "Prelude") ++ (flat_map import_marks m.imports
    ++ (flat_map line_marks m.decls ++ last_line)))
    ∙ (λ i. head_is m.name m.exports i ++ written_append (import_marks (codes "Prelude"))
    (flat_map import_marks m.imports ++ (flat_map line_marks m.decls ++ last_line)) i)
    ∙ (λ i. head_text m.name m.exports ++ (import_is (codes "Prelude") i
    ++ written_append (flat_map import_marks m.imports) (flat_map line_marks m.decls ++ last_line) i))
    ∙ (λ i. head_text m.name m.exports ++ (import_text (codes "Prelude")
    ++ (imports_are m.imports i ++ written_append (flat_map line_marks m.decls) last_line i)))
    ∙ (λ i. head_text m.name m.exports ++ (import_text (codes "Prelude")
    ++ (imports_text m.imports ++ (lines_are m.decls i ++ last_is i))))

pub text_module : (m : FlatModule) → text_of (pieces_of (module_marks m)) ≡ head_text m.name m.exports
    ++ (import_text (codes "Prelude") ++ (imports_text m.imports ++ (lines_text m.decls ++ codes "}\n")))
unfolding written
text_module m = module_is m

-- what was pushed for a module
pub printed : (o p q r s u x : List ℕ) (m : FlatModule) (exports : List FlatExport) (imports : List (List ℕ))
    (decls : List Decl)
    → o ≡ [] → exports ≡ m.exports → imports ≡ m.imports → decls ≡ m.decls → p ≡ o ++ head_text m.name exports
    → q ≡ p ++ import_text (codes "Prelude") → r ≡ q ++ imports_text imports → s ≡ r ++ lines_text decls
    → u ≡ s ++ codes "}\n" → x ≡ u → x ≡ text_of (pieces_of (module_marks m))
printed o p q r s u x m exports imports decls none same_exports same_imports same_decls e f g h i made =
    made
    ∙ pushed_five o p q r s u (head_text m.name exports) (import_text (codes "Prelude")) (imports_text imports)
    (lines_text decls) (codes "}\n") e f g h i
    ∙ (λ j. none j ++ (head_text m.name (same_exports j)
    ++ (import_text (codes "Prelude") ++ (imports_text (same_imports j)
    ++ (lines_text (same_decls j) ++ codes "}\n")))))
    ∙ sym (text_module m)
