-- The declarations and blocks of signatures (Yang 2017, "Backpack: Towards Practical Mix-in Linking for Haskell").
use Rattle.std.specs.Prelude.{◌≡◌, ℕ, max, Bool, true, false, not, ◌&&◌, ◌||◌, Option, None, List, [], ◌∷◌, ◌++◌}
use Rattle.std.specs.Prelude.{map, flat_map}
use Rattle.hs_forms.specs.Reading.{Form}
use Rattle.hs_forms.specs.Limits.{Within, deepest, all_of}
use Rattle.hs_forms.specs.Answers.{Sort}
use Rattle.hs_tokens.specs.Terminals.{is_arrow}
use Rattle.hs_tokens.specs.declared.terminal.Terminal.{Terminal}
use Rattle.hs_tokens.specs.declared.terminal.Terminal.TheVariants as t
use Rattle.hs_tokens.specs.declared.word.Word.TheVariants as w
use Rattle.hs_trees.specs.Patterns.{Ts}
use Rattle.hs_trees.specs.Kinds.{spelling_kind, depth_of_kind}
use Rattle.hs_modules.specs.Modules.{extent_of_sig_decl, extent_of_sig_slot, extent_of_sig_block, extent_of_import}
use Rattle.hs_modules.specs.ModuleTokens.{import_tokens, sig_decl_tokens, sig_slot_tokens, sig_block_tokens}
use Rattle.hs_modules.specs.ModuleForms.{is_unqualified, is_import_list, is_sig_decl, is_sig_slot, is_sig_block}
use Rattle.hs_modules.specs.ModuleForms.{sig_imports, sig_form}
use Rattle.hs_modules.specs.Modules.{depth_of_module}
use Rattle.hs_modules.specs.declared.module.ImpDeclTree.{ImpDeclTree}
use Rattle.hs_modules.specs.declared.module.Module.{Module}
use Rattle.hs_modules.specs.declared.declarations.SigDeclTree.{SigDeclTree}
use Rattle.hs_modules.specs.declared.declarations.SigDeclTree.TheVariants as v_sig
use Rattle.hs_modules.specs.declared.declarations.SigSlot.{SigSlot}
use Rattle.hs_modules.specs.declared.declarations.SigSlot.TheVariants as v_slot
use Rattle.hs_modules.specs.declared.declarations.SigBlock.{SigBlock}
use Rattle.hs_headers.specs.Names.{goes_on}
use Rattle.hs_declarations.specs.declared.kinded.Kinded.{Kinded}
use Rattle.hs_expression_forms.specs.Trees.{Trees, behind_token, ended}
use Rattle.hs_expression_forms.specs.Expressions.{last_part}
use Rattle.hs_block_forms.specs.Combined.{headed}
use Rattle.hs_block_forms.specs.Blocks.{ends_item, is_semicolon}
use Rattle.hs_declaration_forms.specs.Datatypes.{declares_type}
use Rattle.hs_signature_forms.specs.declared.parts.SigPart.{SigPart}
use Rattle.hs_signature_forms.specs.declared.parts.SigPart.TheVariants as p

-- `"data" tycon "::" kind`
abbrev pub kinded_trees : Trees Terminal Kinded
kinded_trees = record {
  tokens = λ x. t.Word w.Data ∷ t.Con x.name ∷ t.DoubleColon ∷ spelling_kind x.kind;
  formed = λ x. is_unqualified x.name;
  deep = λ x. depth_of_kind x.kind;
  extends = λ x k. is_arrow k;
}

-- what declares a type in a signature
abbrev pub is_sig_type : SigDeclTree → Bool
is_sig_type (v_sig.Top decl) = declares_type decl
is_sig_type (v_sig.Kinded name kind) = true

abbrev pub sig_types : Trees Terminal SigDeclTree
sig_types = record {
  tokens = sig_decl_tokens;
  formed = λ x. is_sig_decl x && is_sig_type x;
  deep = λ x. (extent_of_sig_decl x).depth;
  extends = λ x k. not (ends_item k);
}

-- the declarations of a signature, up to what ends them
abbrev pub sig_decls : Trees Terminal SigDeclTree
sig_decls = record {
  tokens = sig_decl_tokens;
  formed = is_sig_decl;
  deep = λ x. (extent_of_sig_decl x).depth;
  extends = λ x k. not (ends_item k);
}

abbrev pub imports : Trees Terminal ImpDeclTree
imports = record {
  tokens = import_tokens;
  formed = λ x. is_import_list x.list;
  deep = λ x. (extent_of_import x).depth;
  extends = λ x k. goes_on k;
}

-- the places behind a declaration: no import stands there
abbrev pub later_slots : Trees Terminal SigSlot
later_slots = record {
  tokens = sig_slot_tokens;
  formed = λ s. is_sig_slot s && not (sig_imports s);
  deep = λ s. (extent_of_sig_slot s).depth;
  extends = λ s k. not (ends_item k);
}

-- a declaration and the places behind it
abbrev pub decl_runs : Trees Terminal (SigDeclTree × List SigSlot)
decl_runs = headed sig_decls (behind_token t.Semicolon later_slots) is_semicolon None

-- the parts of a block
abbrev pub part_tokens : SigPart → Ts
part_tokens p.Empty = []
part_tokens (p.Import decl) = import_tokens decl
part_tokens (p.Decls decl slots) = decl_runs.tokens (decl, slots)

abbrev pub is_part : SigPart → Bool
is_part p.Empty = true
is_part (p.Import decl) = is_import_list decl.list
is_part (p.Decls decl slots) = decl_runs.formed (decl, slots)

abbrev pub part_depth : SigPart → ℕ
part_depth p.Empty = 0
part_depth (p.Import decl) = (extent_of_import decl).depth
part_depth (p.Decls decl slots) = decl_runs.deep (decl, slots)

-- a declaration takes all places behind it
abbrev pub takes_rest : SigPart → Bool
takes_rest (p.Decls decl slots) = true
takes_rest _ = false

abbrev pub part_goes : SigPart → Terminal → Bool
part_goes (p.Decls decl slots) k = decl_runs.extends (decl, slots) k
part_goes _ k = not (ends_item k)

abbrev pub parts : Trees Terminal SigPart
parts = record { tokens = part_tokens; formed = is_part; deep = part_depth; extends = part_goes }

-- nothing stands behind a part that takes the rest
abbrev pub shut : SigPart → List SigPart → Bool
shut first [] = true
shut first (x ∷ xs) = not (takes_rest first) && shut x xs

-- what stands between the braces of a block, with its opening brace
abbrev pub PartList : Type 0
PartList = SigPart × List SigPart

abbrev pub part_lists : Trees Terminal PartList
part_lists = record {
  tokens = λ l. t.LeftBrace ∷ (part_tokens l.0 ++ flat_map (λ x. t.Semicolon ∷ part_tokens x) l.1);
  formed = λ l. (is_part l.0 && all_of (map is_part l.1)) && shut l.0 l.1;
  deep = λ l. max (part_depth l.0) (deepest (map part_depth l.1));
  extends = λ l k. is_semicolon k || part_goes (last_part l.0 l.1) k;
}

-- the places of a part
abbrev pub slots_of : SigPart → List SigSlot
slots_of p.Empty = v_slot.Empty ∷ []
slots_of (p.Import decl) = v_slot.Import decl ∷ []
slots_of (p.Decls decl slots) = v_slot.Decl decl ∷ slots

abbrev pub first_slot : SigPart → SigSlot
first_slot p.Empty = v_slot.Empty
first_slot (p.Import decl) = v_slot.Import decl
first_slot (p.Decls decl slots) = v_slot.Decl decl

abbrev pub more_slots : SigPart → List SigSlot
more_slots (p.Decls decl slots) = slots
more_slots _ = []

abbrev pub block_of : PartList → SigBlock
block_of l = record { first = first_slot l.0; rest = more_slots l.0 ++ flat_map slots_of l.1 }

-- a signature's block
abbrev pub sig_blocks : Trees Terminal SigBlock
sig_blocks = record {
  tokens = sig_block_tokens;
  formed = is_sig_block;
  deep = λ b. (extent_of_sig_block b).depth;
  extends = λ b k. false;
}

-- a signature
abbrev pub signature_sort : Option ℕ → Sort Terminal Module
signature_sort limit = record { form = sig_form limit; depth = depth_of_module }
