-- The module that a printable module's marks spell.
use Rattle.std.proofs.Common.{◌≡◌, ℕ, true, false, List, [], ◌∷◌, ◌++◌, map, refl, sym, ap, ◌∙◌, append_assoc}
use Rattle.std.specs.Prelude.{None, not, codes}
use Rattle.std.specs.List.{flat_map}
use Rattle.std.proofs.lemmas.Bool.{and_from, and_parts}
use Rattle.hs_forms.specs.Limits.{all_of}
use Rattle.hs_tokens.specs.declared.terminal.Terminal.TheVariants as t
use Rattle.hs_tokens.specs.declared.word.Word.TheVariants as w
use Rattle.hs_modules.specs.declared.declarations.TopDeclTree.{TopDeclTree}
use Rattle.hs_modules.specs.declared.declarations.TopSlot.{TopSlot}
use Rattle.hs_modules.specs.declared.declarations.TopSlot.TheVariants as v
use Rattle.hs_modules.specs.declared.declarations.TopBlock.{TopBlock}
use Rattle.hs_modules.specs.declared.module.ImpDeclTree.{ImpDeclTree}
use Rattle.hs_modules.specs.declared.module.ImportList.TheVariants as l
use Rattle.hs_modules.specs.declared.module.Module.{Module}
use Rattle.hs_modules.specs.declared.module.Module.TheVariants as u
use Rattle.hs_modules.specs.ModuleTokens.{import_tokens, top_decl_tokens, top_slot_tokens, module_tokens, export_tokens}
use Rattle.hs_modules.specs.ModuleForms.{is_export, is_top_decl, is_top_slot, top_imports, top_declares, imports_first}
use Rattle.hs_modules.specs.ModuleForms.{is_top_block, is_module}
use Rattle.hs_core.specs.declared.tree.Decl.{Decl}
use Rattle.flat_text.specs.declared.flat.FlatModule.{FlatModule}
use Rattle.flat_text.specs.Marks.{Mark, Marks, seen, space, line_end, keyword, bracketed, parted}
use Rattle.flat_text.specs.ExpressionMarks.{decl_marks}
use Rattle.flat_text.specs.ModuleMarks.{export_marks, import_marks, line_marks, module_marks}
use Rattle.flat_laws.proofs.BraceLemmas.{module_read}
use Rattle.flat_spelled.proofs.SeenLemmas.{Ts, seen_both}
use Rattle.flat_whole.specs.PrintableModule.{is_printable_export, is_printable_top, is_printable_module}
use Rattle.flat_whole.specs.Whole.{FlatTextIsSpelled}
use Rattle.flat_whole.proofs.ExportLemmas.{in_list, exports_spell}
use Rattle.flat_whole.proofs.TopLemmas.{top_spells}

-- ---- lines, each of which ends in a semicolon

-- parts with a semicolon behind each
abbrev ended : List Ts → Ts
ended = flat_map (λ (part : Ts). part ++ t.Semicolon ∷ [])

-- parts with a semicolon before each
abbrev begun : List Ts → Ts
begun = flat_map (λ (part : Ts). t.Semicolon ∷ part)

abbrev import_of : List ℕ → ImpDeclTree
import_of name = record { qualified = true; modid = name; alias = None; list = l.Everything }

abbrev import_slots : List (List ℕ) → List TopSlot
import_slots names = map (λ name. v.Import (import_of name)) names

abbrev decl_slots : List TopDeclTree → List TopSlot
decl_slots trees = map (λ tree. v.Decl tree) trees ++ v.Empty ∷ []

seen_imports : (names : List (List ℕ)) → seen (flat_map import_marks names)
    ≡ ended (map (λ name. import_tokens (import_of name)) names)
seen_imports [] = refl
seen_imports (name ∷ names) =
    ap (λ (z : Ts). t.Word w.Import ∷ t.Var (codes "qualified") ∷ t.Con name ∷ t.Semicolon ∷ z) (seen_imports names)

record LinesOf (ms : Marks) : Type 0 where
  trees : List TopDeclTree
  spelled : seen ms ≡ ended (map top_decl_tokens trees)
  good : all_of (map is_top_decl trees) ≡ true

lines_spell : (decls : List Decl) → all_of (map is_printable_top decls) ≡ true → LinesOf (flat_map line_marks decls)
lines_spell [] e = record { trees = []; spelled = refl; good = refl }
lines_spell (d ∷ decls) e =
    let both = and_parts (is_printable_top d) (all_of (map is_printable_top decls)) e in
    let one = top_spells d both.0 in
    let rest = lines_spell decls both.1 in
    record {
      trees = one.tree ∷ rest.trees;
      spelled = seen_both (line_marks d) (flat_map line_marks decls)
          ∙ (λ i. (seen_both (decl_marks d) (Mark.word t.Semicolon ∷ line_end ∷ [])
          ∙ ap (λ (z : Ts). z ++ t.Semicolon ∷ []) one.spelled) i ++ rest.spelled i);
      good = and_from (is_top_decl one.tree) (all_of (map is_top_decl rest.trees)) one.good rest.good;
    }

-- ---- the same as the places of a block, the last of which is empty

decl_places : (trees : List TopDeclTree) (tail : Ts) → t.Semicolon ∷ (ended (map top_decl_tokens trees) ++ tail)
    ≡ begun (map top_slot_tokens (decl_slots trees)) ++ tail
decl_places [] tail = refl
decl_places (d ∷ trees) tail =
    let part = top_decl_tokens d in
    let rest = ended (map top_decl_tokens trees) in
    ap (λ (z : Ts). t.Semicolon ∷ z)
    (append_assoc (part ++ t.Semicolon ∷ []) rest tail ∙ append_assoc part (t.Semicolon ∷ []) (rest ++ tail)
    ∙ ap (λ (z : Ts). part ++ z) (decl_places trees tail)
    ∙ sym (append_assoc part (begun (map top_slot_tokens (decl_slots trees))) tail))

import_places : (names : List (List ℕ)) (after : List TopSlot) (more tail : Ts)
    → t.Semicolon ∷ more ≡ begun (map top_slot_tokens after) ++ tail
    → t.Semicolon ∷ (ended (map (λ name. import_tokens (import_of name)) names) ++ more)
    ≡ begun (map top_slot_tokens (import_slots names ++ after)) ++ tail
import_places [] after more tail e = e
import_places (name ∷ names) after more tail e =
    ap (λ (z : Ts). t.Semicolon ∷ t.Word w.Import ∷ t.Var (codes "qualified") ∷ t.Con name ∷ z)
    (import_places names after more tail e)

-- ---- the block is well formed

decls_good : (trees : List TopDeclTree) → all_of (map is_top_decl trees) ≡ true
    → all_of (map is_top_slot (decl_slots trees)) ≡ true
decls_good [] e = refl
decls_good (d ∷ trees) e =
    let both = and_parts (is_top_decl d) (all_of (map is_top_decl trees)) e in
    and_from (is_top_decl d) (all_of (map is_top_slot (decl_slots trees))) both.0 (decls_good trees both.1)

imports_good : (names : List (List ℕ)) (after : List TopSlot) → all_of (map is_top_slot after) ≡ true
    → all_of (map is_top_slot (import_slots names ++ after)) ≡ true
imports_good [] after e = e
imports_good (name ∷ names) after e = imports_good names after e

no_imports : (trees : List TopDeclTree) → all_of (map (λ s. not (top_imports s)) (decl_slots trees)) ≡ true
no_imports [] = refl
no_imports (d ∷ trees) = no_imports trees

decls_last : (trees : List TopDeclTree) → imports_first top_imports top_declares (decl_slots trees) ≡ true
decls_last [] = refl
decls_last (d ∷ trees) =
    and_from (all_of (map (λ s. not (top_imports s)) (decl_slots trees)))
    (imports_first top_imports top_declares (decl_slots trees)) (no_imports trees) (decls_last trees)

imports_before : (names : List (List ℕ)) (after : List TopSlot) → imports_first top_imports top_declares after ≡ true
    → imports_first top_imports top_declares (import_slots names ++ after) ≡ true
imports_before [] after e = e
imports_before (name ∷ names) after e = imports_before names after e

-- ---- the module

abbrev block_of : List (List ℕ) → List TopDeclTree → TopBlock
block_of names trees = record {
  first = v.Import (import_of (codes "Prelude"));
  rest = import_slots names ++ decl_slots trees;
}

block_good : (names : List (List ℕ)) (trees : List TopDeclTree) → all_of (map is_top_decl trees) ≡ true
    → is_top_block (block_of names trees) ≡ true
block_good names trees e =
    and_from (all_of (map is_top_slot (import_slots names ++ decl_slots trees)))
    (imports_first top_imports top_declares (import_slots names ++ decl_slots trees))
    (imports_good names (decl_slots trees) (decls_good trees e))
    (imports_before names (decl_slots trees) (decls_last trees))

record ModuleOf (ms : Marks) : Type 0 where
  tree : Module
  spelled : seen ms ≡ module_tokens tree
  good : is_module tree ≡ true

module_spells : (m : FlatModule) → is_printable_module m ≡ true → ModuleOf (module_marks m)
module_spells m e =
    let both = and_parts (all_of (map is_printable_export m.exports)) (all_of (map is_printable_top m.decls)) e in
    let exports = exports_spell m.exports both.0 in
    let lines = lines_spell m.decls both.1 in
    let end : Marks = Mark.word t.RightBrace ∷ line_end ∷ [] in
    let listing = bracketed (parted (map export_marks m.exports)) in
    let opening : Marks = space ∷ keyword w.Where ∷ space ∷ Mark.word t.LeftBrace ∷ line_end ∷ [] in
    let inside = flat_map import_marks m.imports ++ (flat_map line_marks m.decls ++ end) in
    let body = import_marks (codes "Prelude") ++ inside in
    record {
      tree = u.Exporting m.name (record { exports = exports.trees; trailing = false }) (block_of m.imports lines.trees);
      spelled = ap (λ (z : Ts). t.Word w.Module ∷ t.Con m.name ∷ z)
          (ap seen (append_assoc listing opening body) ∙ seen_both listing (opening ++ body)
          ∙ (λ i. in_list (map export_marks m.exports) (map export_tokens exports.trees) exports.spelled i
          ++ t.Word w.Where ∷ t.LeftBrace ∷ t.Word w.Import ∷ t.Var (codes "qualified") ∷ t.Con (codes "Prelude")
          ∷ (ap (λ (z : Ts). t.Semicolon ∷ z) (seen_both (flat_map import_marks m.imports)
          (flat_map line_marks m.decls ++ end)
          ∙ (λ j. seen_imports m.imports j ++ (seen_both (flat_map line_marks m.decls) end
          ∙ ap (λ (z : Ts). z ++ t.RightBrace ∷ []) lines.spelled) j))
          ∙ import_places m.imports (decl_slots lines.trees) (ended (map top_decl_tokens lines.trees)
          ++ t.RightBrace ∷ [])
          (t.RightBrace ∷ []) (decl_places lines.trees (t.RightBrace ∷ []))) i));
      good = and_from (all_of (map is_export exports.trees))
          (is_top_block (block_of m.imports lines.trees)) exports.good
          (block_good m.imports lines.trees lines.good);
    }

pub whole_spelled : FlatTextIsSpelled
whole_spelled m lawful e =
    let read = module_read m lawful in
    let it = module_spells m e in
    record {
      tokens = read.tokens;
      covered = read.covered;
      laid_out = read.laid_out;
      tree = it.tree;
      spelled = (read.terminals_are ∙ it.spelled, (it.good, tt));
    }
