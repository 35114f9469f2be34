-- Top declarations and blocks of modules (Haskell 2010 Report, chapters 4 and 5).
use Rattle.std.specs.Prelude.{◌≡◌, ℕ, max, Bool, true, false, not, ◌&&◌, ◌||◌, Option, None, List, [], ◌∷◌, ◌++◌}
use Rattle.std.specs.Prelude.{map, flat_map}
use Rattle.hs_forms.specs.Reading.{Form}
use Rattle.hs_forms.specs.Limits.{Within, deepest, all_of}
use Rattle.hs_forms.specs.Answers.{Sort}
use Rattle.hs_tokens.specs.declared.terminal.Terminal.{Terminal}
use Rattle.hs_tokens.specs.declared.terminal.Terminal.TheVariants as t
use Rattle.hs_trees.specs.Patterns.{Ts}
use Rattle.hs_modules.specs.Modules.{extent_of_top_decl, extent_of_top_slot, extent_of_top_block, extent_of_import}
use Rattle.hs_modules.specs.ModuleTokens.{import_tokens, top_decl_tokens, top_slot_tokens, top_block_tokens}
use Rattle.hs_modules.specs.ModuleForms.{is_import_list, is_top_decl, is_top_slot, is_top_block}
use Rattle.hs_modules.specs.ModuleForms.{top_imports, module_form}
use Rattle.hs_modules.specs.Modules.{depth_of_module}
use Rattle.hs_modules.specs.declared.module.ImpDeclTree.{ImpDeclTree}
use Rattle.hs_modules.specs.declared.module.Module.{Module}
use Rattle.hs_modules.specs.declared.declarations.TopDeclTree.{TopDeclTree}
use Rattle.hs_modules.specs.declared.declarations.TopSlot.{TopSlot}
use Rattle.hs_modules.specs.declared.declarations.TopSlot.TheVariants as v_slot
use Rattle.hs_modules.specs.declared.declarations.TopBlock.{TopBlock}
use Rattle.hs_expression_forms.specs.Trees.{Trees, behind_token, ended}
use Rattle.hs_expression_forms.specs.Expressions.{last_part}
use Rattle.hs_block_forms.specs.Combined.{headed}
use Rattle.hs_block_forms.specs.Blocks.{ends_item, is_semicolon}
use Rattle.hs_body_forms.specs.declared.parts.TopPart.{TopPart}
use Rattle.hs_body_forms.specs.declared.parts.TopPart.TheVariants as p

-- the top declarations of a module
abbrev pub top_decls : Trees Terminal TopDeclTree
top_decls = record {
  tokens = top_decl_tokens;
  formed = is_top_decl;
  deep = λ x. (extent_of_top_decl x).depth;
  extends = λ x k. not (ends_item k);
}

-- the places behind a declaration: no import stands there
abbrev pub later_slots : Trees Terminal TopSlot
later_slots = record {
  tokens = top_slot_tokens;
  formed = λ s. is_top_slot s && not (top_imports s);
  deep = λ s. (extent_of_top_slot s).depth;
  extends = λ s k. not (ends_item k);
}

-- a declaration and the places behind it
abbrev pub decl_runs : Trees Terminal (TopDeclTree × List TopSlot)
decl_runs = headed top_decls (behind_token t.Semicolon later_slots) is_semicolon None

-- the parts of a block
abbrev pub part_tokens : TopPart → Ts
part_tokens p.Empty = []
part_tokens (p.Import decl) = import_tokens decl
part_tokens (p.Decls decl slots) = decl_runs.tokens (decl, slots)

abbrev pub is_part : TopPart → Bool
is_part p.Empty = true
is_part (p.Import decl) = is_import_list decl.list
is_part (p.Decls decl slots) = decl_runs.formed (decl, slots)

abbrev pub part_depth : TopPart → ℕ
part_depth p.Empty = 0
part_depth (p.Import decl) = (extent_of_import decl).depth
part_depth (p.Decls decl slots) = decl_runs.deep (decl, slots)

-- a declaration takes all places behind it
abbrev pub takes_rest : TopPart → Bool
takes_rest (p.Decls decl slots) = true
takes_rest _ = false

abbrev pub part_goes : TopPart → Terminal → Bool
part_goes (p.Decls decl slots) k = decl_runs.extends (decl, slots) k
part_goes _ k = not (ends_item k)

abbrev pub parts : Trees Terminal TopPart
parts = record { tokens = part_tokens; formed = is_part; deep = part_depth; extends = part_goes }

-- nothing stands behind a part that takes the rest
abbrev pub shut : TopPart → List TopPart → Bool
shut first [] = true
shut first (x ∷ xs) = not (takes_rest first) && shut x xs

-- what stands between the braces of a block, with its opening brace
abbrev pub PartList : Type 0
PartList = TopPart × List TopPart

abbrev pub part_lists : Trees Terminal PartList
part_lists = record {
  tokens = λ l. t.LeftBrace ∷ (part_tokens l.0 ++ flat_map (λ x. t.Semicolon ∷ part_tokens x) l.1);
  formed = λ l. (is_part l.0 && all_of (map is_part l.1)) && shut l.0 l.1;
  deep = λ l. max (part_depth l.0) (deepest (map part_depth l.1));
  extends = λ l k. is_semicolon k || part_goes (last_part l.0 l.1) k;
}

-- the places of a part
abbrev pub slots_of : TopPart → List TopSlot
slots_of p.Empty = v_slot.Empty ∷ []
slots_of (p.Import decl) = v_slot.Import decl ∷ []
slots_of (p.Decls decl slots) = v_slot.Decl decl ∷ slots

abbrev pub first_slot : TopPart → TopSlot
first_slot p.Empty = v_slot.Empty
first_slot (p.Import decl) = v_slot.Import decl
first_slot (p.Decls decl slots) = v_slot.Decl decl

abbrev pub more_slots : TopPart → List TopSlot
more_slots (p.Decls decl slots) = slots
more_slots _ = []

abbrev pub block_of : PartList → TopBlock
block_of l = record { first = first_slot l.0; rest = more_slots l.0 ++ flat_map slots_of l.1 }

-- a module's block
abbrev pub top_blocks : Trees Terminal TopBlock
top_blocks = record {
  tokens = top_block_tokens;
  formed = is_top_block;
  deep = λ b. (extent_of_top_block b).depth;
  extends = λ b k. false;
}

-- a module
abbrev pub module_sort : Option ℕ → Sort Terminal Module
module_sort limit = record { form = module_form limit; depth = depth_of_module }
