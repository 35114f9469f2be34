-- The flat texts of modules, one behind the other, are cut into those texts again.
use Rattle.std.proofs.Common.{◌≡◌, ℕ, true, false, List, [], ◌∷◌, ◌++◌, map, refl, sym, ap, ◌∙◌, append_assoc}
use Rattle.std.specs.Prelude.{codes}
use Rattle.std.specs.List.{flat_map}
use Rattle.std.proofs.lemmas.Bool.{and_from, and_parts}
use Rattle.std.proofs.lemmas.List.{append-nil}
use Rattle.hs_forms.specs.Limits.{all_of}
use Rattle.hs_tokens.specs.declared.terminal.Terminal.TheVariants as t
use Rattle.hs_tokens.specs.declared.word.Word.TheVariants as w
use Rattle.hs_core.specs.declared.tree.Decl.{Decl}
use Rattle.flat_text.specs.declared.flat.FlatExport.{FlatExport}
use Rattle.flat_text.specs.declared.flat.FlatModule.{FlatModule}
use Rattle.flat_text.specs.Marks.{Blank, Mark, Marks, seen, space, line_end, keyword, bracketed, parted}
use Rattle.flat_text.specs.Marks.{shape_of}
use Rattle.flat_text.specs.ExpressionMarks.{decl_marks}
use Rattle.flat_text.specs.ModuleMarks.{export_marks, head_marks, import_marks, line_marks, module_marks}
use Rattle.flat_lines.specs.Lines.{cut_text, keeps_line, bytes_of, flat_text, keeps_lines, FlatTextsFallApart}
use Rattle.flat_lines.proofs.CutLemmas.{Quiet, cut_once, Fits, fits_append, marks_quiet, inner_fits, first_fits}
use Rattle.flat_lines.proofs.CutLemmas.{begins_well}
use Rattle.flat_lines.proofs.OneLineLemmas.{decl_one, decl_first, export_list_one}

line_fits : (d : Decl) → Fits true (line_marks d) true
line_fits d =
    fits_append true false true (decl_marks d) (Mark.word t.Semicolon ∷ line_end ∷ [])
    (first_fits (decl_marks d) (decl_one d) (ap begins_well (sym (append-nil (decl_marks d))) ∙ decl_first d []))
    (record { fit = refl; ends = refl })

lines_fit : (decls : List Decl) → Fits true (flat_map line_marks decls) true
lines_fit [] = record { fit = refl; ends = refl }
lines_fit (d ∷ decls) =
    fits_append true true true (line_marks d) (flat_map line_marks decls) (line_fits d) (lines_fit decls)

import_fits : (name : List ℕ) → Fits true (import_marks name) true
import_fits name = record { fit = refl; ends = refl }

imports_fit : (names : List (List ℕ)) → Fits true (flat_map import_marks names) true
imports_fit [] = record { fit = refl; ends = refl }
imports_fit (name ∷ names) =
    fits_append true true true (import_marks name) (flat_map import_marks names) (import_fits name) (imports_fit names)

head_fits : (name : List ℕ) (exports : List FlatExport) → Fits true (head_marks name exports) true
head_fits name exports =
    let it = fits_append false false true (bracketed (parted (map export_marks exports)))
    (space ∷ keyword w.Where ∷ space ∷ Mark.word t.LeftBrace ∷ line_end ∷ [])
    (inner_fits (bracketed (parted (map export_marks exports))) (export_list_one exports))
    (record { fit = refl; ends = refl }) in
    record { fit = it.fit; ends = it.ends }

-- all but the last line
abbrev front_marks : FlatModule → Marks
front_marks m =
    head_marks m.name m.exports ++ (import_marks (codes "Prelude") ++ (flat_map import_marks m.imports
    ++ flat_map line_marks m.decls))

abbrev last_line : Marks
last_line = Mark.word t.RightBrace ∷ line_end ∷ []

front_fits : (m : FlatModule) → Fits true (front_marks m) true
front_fits m =
    let decls = flat_map line_marks m.decls in
    let imports = flat_map import_marks m.imports in
    fits_append true true true (head_marks m.name m.exports) (import_marks (codes "Prelude") ++ (imports ++ decls))
    (head_fits m.name m.exports)
    (fits_append true true true (import_marks (codes "Prelude")) (imports ++ decls) (import_fits (codes "Prelude"))
    (fits_append true true true imports decls (imports_fit m.imports) (lines_fit m.decls)))

-- the module's marks as all but the last line, and that
split_marks : (m : FlatModule) → module_marks m ≡ front_marks m ++ last_line
split_marks m =
    let decls = flat_map line_marks m.decls in
    let imports = flat_map import_marks m.imports in
    let prelude = import_marks (codes "Prelude") in
    let heading = head_marks m.name m.exports in
    sym (append_assoc heading (prelude ++ (imports ++ decls)) last_line
    ∙ ap (λ (z : Marks). heading ++ (prelude ++ z)) (append_assoc imports decls last_line))

bytes_both : (xs ys : Marks) → bytes_of (xs ++ ys) ≡ bytes_of xs ++ bytes_of ys
bytes_both [] ys = refl
bytes_both (Mark.blank Blank.gap ∷ xs) ys = ap (λ r. 32 ∷ r) (bytes_both xs ys)
bytes_both (Mark.blank Blank.line ∷ xs) ys = ap (λ r. 10 ∷ r) (bytes_both xs ys)
bytes_both (Mark.word x ∷ xs) ys =
    ap (λ r. (shape_of x).text ++ r) (bytes_both xs ys)
    ∙ sym (append_assoc (shape_of x).text (bytes_of xs) (bytes_of ys))

front_keeps : (xs ys : Marks) → all_of (map keeps_line (seen (xs ++ ys))) ≡ true
    → all_of (map keeps_line (seen xs)) ≡ true
front_keeps [] ys e = refl
front_keeps (Mark.blank b ∷ xs) ys e = front_keeps xs ys e
front_keeps (Mark.word x ∷ xs) ys e =
    let both = and_parts (keeps_line x) (all_of (map keeps_line (seen (xs ++ ys)))) e in
    and_from (keeps_line x) (all_of (map keeps_line (seen xs))) both.0 (front_keeps xs ys both.1)

record FrontOf (text : List ℕ) : Type 0 where
  front : List ℕ
  is : text ≡ front ++ 125 ∷ 10 ∷ []
  quiet : Quiet true front true

front_of : (m : FlatModule) → keeps_lines m ≡ true → FrontOf (flat_text m)
front_of m e =
    let it = front_fits m in
    let keeps = front_keeps (front_marks m) last_line
    (ap (λ (z : Marks). all_of (map keeps_line (seen z))) (sym (split_marks m)) ∙ e) in
    let q = marks_quiet true (front_marks m) it.fit keeps in
    record {
      front = bytes_of (front_marks m);
      is = ap bytes_of (split_marks m) ∙ bytes_both (front_marks m) last_line;
      quiet = record { is_quiet = q.is_quiet; ends = q.ends ∙ it.ends };
    }

cut_first : (text rest : List ℕ) → FrontOf text → cut_text (text ++ rest) ≡ text ∷ cut_text rest
cut_first text rest it =
    ap (λ (z : List ℕ). cut_text (z ++ rest)) it.is
    ∙ ap cut_text (append_assoc it.front (125 ∷ 10 ∷ []) rest)
    ∙ cut_once it.front rest it.quiet
    ∙ ap (λ (z : List ℕ). z ∷ cut_text rest) (sym it.is)

pub texts_fall_apart : FlatTextsFallApart
texts_fall_apart [] e = refl
texts_fall_apart (m ∷ ms) e =
    let both = and_parts (keeps_lines m) (all_of (map keeps_lines ms)) e in
    cut_first (flat_text m) (flat_map flat_text ms) (front_of m both.0)
    ∙ ap (λ r. flat_text m ∷ r) (texts_fall_apart ms both.1)
