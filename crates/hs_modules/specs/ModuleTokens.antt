-- The tokens of modules and signatures (Haskell 2010 Report, chapters 4 and 5). `as`, `qualified`, `hiding` and
-- `signature` are names with a meaning there.
use Rattle.std.specs.Prelude.{ℕ, Bool, true, false, Option, Some, None, List, [], ◌∷◌, ◌++◌, codes, flat_map, map}
use Rattle.hs_trees.specs.Types.{spelling_type, spelling_btype, spelling_atype}
use Rattle.hs_trees.specs.Kinds.{spelling_kind}
use Rattle.hs_trees.specs.Patterns.{Ts, var_tokens, between_commas}
use Rattle.hs_tokens.specs.declared.terminal.Terminal.TheVariants as t
use Rattle.hs_tokens.specs.declared.word.Word.TheVariants as w
use Rattle.hs_modules.specs.Words.{qvar_tokens, con_tokens, conop_tokens}
use Rattle.hs_modules.specs.Tokens.{block_tokens, spelling_decl}
use Rattle.hs_modules.specs.declared.declarations.ConstrSide.{ConstrSide}
use Rattle.hs_modules.specs.declared.declarations.ConstrSide.TheVariants as v_side
use Rattle.hs_modules.specs.declared.declarations.Field.{Field}
use Rattle.hs_modules.specs.declared.declarations.ConstrTree.{ConstrTree}
use Rattle.hs_modules.specs.declared.declarations.ConstrTree.TheVariants as v_constr
use Rattle.hs_modules.specs.declared.declarations.TopDeclTree.{TopDeclTree}
use Rattle.hs_modules.specs.declared.declarations.TopDeclTree.TheVariants as v_top
use Rattle.hs_modules.specs.declared.declarations.SigDeclTree.{SigDeclTree}
use Rattle.hs_modules.specs.declared.declarations.SigDeclTree.TheVariants as v_sig
use Rattle.hs_modules.specs.declared.declarations.TopSlot.{TopSlot}
use Rattle.hs_modules.specs.declared.declarations.TopSlot.TheVariants as v_top_slot
use Rattle.hs_modules.specs.declared.declarations.TopBlock.{TopBlock}
use Rattle.hs_modules.specs.declared.declarations.SigSlot.{SigSlot}
use Rattle.hs_modules.specs.declared.declarations.SigSlot.TheVariants as v_sig_slot
use Rattle.hs_modules.specs.declared.declarations.SigBlock.{SigBlock}
use Rattle.hs_modules.specs.declared.module.CNameTree.{CNameTree}
use Rattle.hs_modules.specs.declared.module.CNameTree.TheVariants as v_cname
use Rattle.hs_modules.specs.declared.module.SubsTree.{SubsTree}
use Rattle.hs_modules.specs.declared.module.SubsTree.TheVariants as v_subs
use Rattle.hs_modules.specs.declared.module.ExportTree.{ExportTree}
use Rattle.hs_modules.specs.declared.module.ExportTree.TheVariants as v_export
use Rattle.hs_modules.specs.declared.module.ExportsTree.{ExportsTree}
use Rattle.hs_modules.specs.declared.module.ItemTree.{ItemTree}
use Rattle.hs_modules.specs.declared.module.ItemTree.TheVariants as v_item
use Rattle.hs_modules.specs.declared.module.ImportList.{ImportList}
use Rattle.hs_modules.specs.declared.module.ImportList.TheVariants as v_list
use Rattle.hs_modules.specs.declared.module.ImpDeclTree.{ImpDeclTree}
use Rattle.hs_modules.specs.declared.module.Module.{Module}
use Rattle.hs_modules.specs.declared.module.Module.TheVariants as v_module

-- a list in round brackets, which may be empty and may end in a comma
abbrev pub listed : List Ts → Bool → Ts
listed parts trailing = t.LeftParen ∷ (separated parts ++ (comma trailing ++ t.RightParen ∷ [])) where
  separated : List Ts → Ts
  separated [] = []
  separated (first ∷ rest) = between_commas first rest

  comma : Bool → Ts
  comma true = t.Comma ∷ []
  comma false = []

abbrev pub cname_tokens : CNameTree → Ts
cname_tokens (v_cname.Var name) = var_tokens name
cname_tokens (v_cname.Con name) = con_tokens name

abbrev pub subs_tokens : SubsTree → Ts
subs_tokens v_subs.All = t.LeftParen ∷ t.DotDot ∷ t.RightParen ∷ []
subs_tokens (v_subs.Only names) = listed (map cname_tokens names) false

abbrev pub export_tokens : ExportTree → Ts
export_tokens (v_export.Var name) = qvar_tokens name
export_tokens (v_export.Type name) = t.Con name ∷ []
export_tokens (v_export.TypeWith name subs) = t.Con name ∷ subs_tokens subs
export_tokens (v_export.Module name) = t.Word w.Module ∷ t.Con name ∷ []

abbrev pub exports_tokens : ExportsTree → Ts
exports_tokens e = listed (map export_tokens e.exports) e.trailing

abbrev pub item_tokens : ItemTree → Ts
item_tokens (v_item.Var name) = var_tokens name
item_tokens (v_item.Type name) = t.Con name ∷ []
item_tokens (v_item.TypeWith name subs) = t.Con name ∷ subs_tokens subs

abbrev pub import_list_tokens : ImportList → Ts
import_list_tokens v_list.Everything = []
import_list_tokens (v_list.Only items trailing) = listed (map item_tokens items) trailing
import_list_tokens (v_list.Hiding items trailing) = t.Var (codes "hiding") ∷ listed (map item_tokens items) trailing

abbrev pub import_tokens : ImpDeclTree → Ts
import_tokens i = t.Word w.Import ∷ (qualified i.qualified
    ++ t.Con i.modid ∷ (alias i.alias ++ import_list_tokens i.list)) where
      qualified : Bool → Ts
      qualified true = t.Var (codes "qualified") ∷ []
      qualified false = []

      alias : Option (List ℕ) → Ts
      alias None = []
      alias (Some name) = t.Var (codes "as") ∷ t.Con name ∷ []

abbrev pub bang : Ts
bang = t.VarSym (codes "!") ∷ []

abbrev pub field_tokens : Field → Ts
field_tokens f = strictness f.strict ++ spelling_atype f.atype where
  strictness : Bool → Ts
  strictness true = bang
  strictness false = []

abbrev pub side_tokens : ConstrSide → Ts
side_tokens (v_side.Lazy btype) = spelling_btype btype
side_tokens (v_side.Strict atype) = bang ++ spelling_atype atype

abbrev pub constr_tokens : ConstrTree → Ts
constr_tokens (v_constr.Prefix con fields) = con_tokens con ++ flat_map field_tokens fields
constr_tokens (v_constr.Infix left op right) = side_tokens left ++ (conop_tokens op ++ side_tokens right)

-- a type and its variables
abbrev pub head_tokens : List ℕ → List (List ℕ) → Ts
head_tokens name params = t.Con name ∷ map (λ param. t.Var param) params

abbrev pub top_decl_tokens : TopDeclTree → Ts
top_decl_tokens (v_top.EmptyData name params) = t.Word w.Data ∷ head_tokens name params
top_decl_tokens (v_top.Data name params first rest) =
    t.Word w.Data ∷ (head_tokens name params ++ t.Equals ∷
    (constr_tokens first ++ flat_map (λ constr. t.Bar ∷ constr_tokens constr) rest))
top_decl_tokens (v_top.Newtype name params con atype) =
    t.Word w.Newtype ∷ (head_tokens name params ++ t.Equals ∷ (con_tokens con ++ spelling_atype atype))
top_decl_tokens (v_top.Synonym name params ty) = t.Word w.Type ∷
    (head_tokens name params ++ t.Equals ∷ spelling_type ty)
top_decl_tokens (v_top.Decl decl) = spelling_decl decl

abbrev pub sig_decl_tokens : SigDeclTree → Ts
sig_decl_tokens (v_sig.Top decl) = top_decl_tokens decl
sig_decl_tokens (v_sig.Kinded name kind) = t.Word w.Data ∷ t.Con name ∷ t.DoubleColon ∷ spelling_kind kind

abbrev pub top_slot_tokens : TopSlot → Ts
top_slot_tokens v_top_slot.Empty = []
top_slot_tokens (v_top_slot.Import decl) = import_tokens decl
top_slot_tokens (v_top_slot.Decl decl) = top_decl_tokens decl

abbrev pub top_block_tokens : TopBlock → Ts
top_block_tokens b = block_tokens (top_slot_tokens b.first) (map top_slot_tokens b.rest)

abbrev pub sig_slot_tokens : SigSlot → Ts
sig_slot_tokens v_sig_slot.Empty = []
sig_slot_tokens (v_sig_slot.Import decl) = import_tokens decl
sig_slot_tokens (v_sig_slot.Decl decl) = sig_decl_tokens decl

abbrev pub sig_block_tokens : SigBlock → Ts
sig_block_tokens b = block_tokens (sig_slot_tokens b.first) (map sig_slot_tokens b.rest)

abbrev pub module_tokens : Module → Ts
module_tokens (v_module.Headless block) = top_block_tokens block
module_tokens (v_module.Named name block) = t.Word w.Module ∷ t.Con name ∷ t.Word w.Where ∷ top_block_tokens block
module_tokens (v_module.Exporting name exports block) =
    t.Word w.Module ∷ t.Con name ∷ (exports_tokens exports ++ t.Word w.Where ∷ top_block_tokens block)
module_tokens (v_module.Signature name block) = t.Var (codes "signature") ∷ t.Con name ∷ t.Word w.Where
    ∷ sig_block_tokens block
