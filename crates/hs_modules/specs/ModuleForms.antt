-- Which trees of modules and signatures a source can have (Haskell 2010 Report, chapters 4 and 5): what is declared, or
-- listed by an
-- import, is not qualified, imports stand before declarations, and a signature binds nothing.
use Rattle.std.specs.Prelude.{◌≡◌, ℕ, Bool, true, false, not, ◌&&◌, ◌||◌, List, [], ◌∷◌, map, Option}
use Rattle.hs_forms.specs.Reading.{Form}
use Rattle.hs_forms.specs.Limits.{Within, all_of}
use Rattle.hs_trees.specs.Types.{is_type, is_btype, is_atype}
use Rattle.hs_tokens.specs.declared.terminal.Terminal.{Terminal}
use Rattle.hs_modules.specs.Words.{has_dot, is_con, is_conop}
use Rattle.hs_modules.specs.Formed.{facts_of_decl}
use Rattle.hs_modules.specs.ModuleTokens.{module_tokens}
use Rattle.hs_modules.specs.Modules.{depth_of_module}
use Rattle.hs_modules.specs.declared.expressions.DeclTree.{DeclTree, DeclTree-F, out-DeclTree}
use Rattle.hs_modules.specs.declared.declarations.ConstrSide.{ConstrSide}
use Rattle.hs_modules.specs.declared.declarations.ConstrSide.TheVariants as v_side
use Rattle.hs_modules.specs.declared.declarations.Field.{Field}
use Rattle.hs_modules.specs.declared.declarations.ConstrTree.{ConstrTree}
use Rattle.hs_modules.specs.declared.declarations.ConstrTree.TheVariants as v_constr
use Rattle.hs_modules.specs.declared.declarations.TopDeclTree.{TopDeclTree}
use Rattle.hs_modules.specs.declared.declarations.TopDeclTree.TheVariants as v_top
use Rattle.hs_modules.specs.declared.declarations.SigDeclTree.{SigDeclTree}
use Rattle.hs_modules.specs.declared.declarations.SigDeclTree.TheVariants as v_sig
use Rattle.hs_modules.specs.declared.declarations.TopSlot.{TopSlot}
use Rattle.hs_modules.specs.declared.declarations.TopSlot.TheVariants as v_top_slot
use Rattle.hs_modules.specs.declared.declarations.TopBlock.{TopBlock}
use Rattle.hs_modules.specs.declared.declarations.SigSlot.{SigSlot}
use Rattle.hs_modules.specs.declared.declarations.SigSlot.TheVariants as v_sig_slot
use Rattle.hs_modules.specs.declared.declarations.SigBlock.{SigBlock}
use Rattle.hs_modules.specs.declared.module.CNameTree.{CNameTree}
use Rattle.hs_modules.specs.declared.module.CNameTree.TheVariants as v_cname
use Rattle.hs_modules.specs.declared.module.SubsTree.{SubsTree}
use Rattle.hs_modules.specs.declared.module.SubsTree.TheVariants as v_subs
use Rattle.hs_modules.specs.declared.module.ExportTree.{ExportTree}
use Rattle.hs_modules.specs.declared.module.ExportTree.TheVariants as v_export
use Rattle.hs_modules.specs.declared.module.ExportsTree.{ExportsTree}
use Rattle.hs_modules.specs.declared.module.ItemTree.{ItemTree}
use Rattle.hs_modules.specs.declared.module.ItemTree.TheVariants as v_item
use Rattle.hs_modules.specs.declared.module.ImportList.{ImportList}
use Rattle.hs_modules.specs.declared.module.ImportList.TheVariants as v_list
use Rattle.hs_modules.specs.declared.module.ImpDeclTree.{ImpDeclTree}
use Rattle.hs_modules.specs.declared.module.Module.{Module}
use Rattle.hs_modules.specs.declared.module.Module.TheVariants as v_module
use Rattle.hs_modules.specs.declared.expressions.AExpTree.{AExpTree}
use Rattle.hs_modules.specs.declared.expressions.AltBody.{AltBody}
use Rattle.hs_modules.specs.declared.expressions.AltSlot.{AltSlot}
use Rattle.hs_modules.specs.declared.expressions.DeclSlot.{DeclSlot}
use Rattle.hs_modules.specs.declared.expressions.ExpTree.{ExpTree}
use Rattle.hs_modules.specs.declared.expressions.GuardTree.{GuardTree}
use Rattle.hs_modules.specs.declared.expressions.Locals.{Locals}
use Rattle.hs_modules.specs.declared.expressions.OperandTree.{OperandTree}
use Rattle.hs_modules.specs.declared.expressions.RhsBody.{RhsBody}
use Rattle.hs_modules.specs.declared.expressions.AltBlock.{AltBlock}
use Rattle.hs_modules.specs.declared.expressions.AltTree.{AltTree}
use Rattle.hs_modules.specs.declared.expressions.CaseTree.{CaseTree}
use Rattle.hs_modules.specs.declared.expressions.DeclBlock.{DeclBlock}
use Rattle.hs_modules.specs.declared.expressions.GdTree.{GdTree}
use Rattle.hs_modules.specs.declared.expressions.GdaTree.{GdaTree}
use Rattle.hs_modules.specs.declared.expressions.IfTree.{IfTree}
use Rattle.hs_modules.specs.declared.expressions.InfixTree.{InfixTree}
use Rattle.hs_modules.specs.declared.expressions.LambdaTree.{LambdaTree}
use Rattle.hs_modules.specs.declared.expressions.LetTree.{LetTree}
use Rattle.hs_modules.specs.declared.expressions.OpOperand.{OpOperand}
use Rattle.hs_modules.specs.declared.expressions.RhsTree.{RhsTree}
use Rattle.hs_modules.specs.declared.expressions.SignedOperand.{SignedOperand}

-- a name of this module: no dot stands in it
abbrev pub is_unqualified : List ℕ → Bool
is_unqualified name = not (has_dot name)

-- the names behind a type in a list: `T(x, C)`, and not `T(M.C)`
abbrev pub is_cname : CNameTree → Bool
is_cname (v_cname.Var name) = true
is_cname (v_cname.Con name) = is_con name

abbrev pub is_subs : SubsTree → Bool
is_subs v_subs.All = true
is_subs (v_subs.Only names) = all_of (map is_cname names)

abbrev pub is_export : ExportTree → Bool
is_export (v_export.TypeWith name subs) = is_subs subs
is_export _ = true

-- an import lists what the other module calls its own: not `import C (M.T)`
abbrev pub is_item : ItemTree → Bool
is_item (v_item.Var name) = true
is_item (v_item.Type name) = is_unqualified name
is_item (v_item.TypeWith name subs) = is_unqualified name && is_subs subs

abbrev pub is_import_list : ImportList → Bool
is_import_list v_list.Everything = true
is_import_list (v_list.Only items trailing) = all_of (map is_item items)
is_import_list (v_list.Hiding items trailing) = all_of (map is_item items)

abbrev pub is_field : Field → Bool
is_field f = is_atype f.atype

abbrev pub is_side : ConstrSide → Bool
is_side (v_side.Lazy btype) = is_btype btype
is_side (v_side.Strict atype) = is_atype atype

abbrev pub is_constr : ConstrTree → Bool
is_constr (v_constr.Prefix con fields) = is_con con && all_of (map is_field fields)
is_constr (v_constr.Infix left op right) = is_conop op && (is_side left && is_side right)

-- what is declared is not qualified: not `data M.T`, nor `newtype T = M.C a`
abbrev pub is_top_decl : TopDeclTree → Bool
is_top_decl (v_top.EmptyData name params) = is_unqualified name
is_top_decl (v_top.Data name params first rest) = is_unqualified name &&
    (is_constr first && all_of (map is_constr rest))
is_top_decl (v_top.Newtype name params con atype) = is_unqualified name && (is_con con && is_atype atype)
is_top_decl (v_top.Synonym name params ty) = is_unqualified name && is_type ty
is_top_decl (v_top.Decl decl) = (facts_of_decl decl).good

-- a type's signature, a fixity or a type: no function and no pattern
abbrev pub binds_nothing : TopDeclTree → Bool
binds_nothing (v_top.Decl decl) = by (out-DeclTree decl) where
  by : DeclTree-F AExpTree AltBody AltSlot DeclSlot DeclTree ExpTree GuardTree Locals OperandTree RhsBody AltBlock
      AltTree CaseTree DeclBlock GdTree GdaTree IfTree InfixTree LambdaTree LetTree OpOperand RhsTree SignedOperand
      → Bool
  by (DeclTree-F.Function left right) = false
  by (DeclTree-F.Pattern left right) = false
  by _ = true
binds_nothing _ = true

abbrev pub is_sig_decl : SigDeclTree → Bool
is_sig_decl (v_sig.Top decl) = is_top_decl decl && binds_nothing decl
is_sig_decl (v_sig.Kinded name kind) = is_unqualified name

abbrev pub is_top_slot : TopSlot → Bool
is_top_slot v_top_slot.Empty = true
is_top_slot (v_top_slot.Import decl) = is_import_list decl.list
is_top_slot (v_top_slot.Decl decl) = is_top_decl decl

abbrev pub is_sig_slot : SigSlot → Bool
is_sig_slot v_sig_slot.Empty = true
is_sig_slot (v_sig_slot.Import decl) = is_import_list decl.list
is_sig_slot (v_sig_slot.Decl decl) = is_sig_decl decl

abbrev pub top_imports : TopSlot → Bool
top_imports (v_top_slot.Import decl) = true
top_imports _ = false

abbrev pub top_declares : TopSlot → Bool
top_declares (v_top_slot.Decl decl) = true
top_declares _ = false

abbrev pub sig_imports : SigSlot → Bool
sig_imports (v_sig_slot.Import decl) = true
sig_imports _ = false

abbrev pub sig_declares : SigSlot → Bool
sig_declares (v_sig_slot.Decl decl) = true
sig_declares _ = false

-- no import stands behind a declaration: not `x = x; import C`
abbrev pub imports_first : {S : Type 0} → (S → Bool) → (S → Bool) → List S → Bool
imports_first imports declares [] = true
imports_first imports declares (slot ∷ slots) = imports_ok (declares slot) && imports_first imports declares slots where
  imports_ok : Bool → Bool
  imports_ok false = true
  imports_ok true = all_of (map (λ s. not (imports s)) slots)

abbrev pub is_top_block : TopBlock → Bool
is_top_block b = all_of (map is_top_slot (b.first ∷ b.rest)) && imports_first top_imports top_declares
    (b.first ∷ b.rest)

abbrev pub is_sig_block : SigBlock → Bool
is_sig_block b = all_of (map is_sig_slot (b.first ∷ b.rest)) && imports_first sig_imports sig_declares
    (b.first ∷ b.rest)

-- the trees of a module
abbrev pub is_module : Module → Bool
is_module (v_module.Headless block) = is_top_block block
is_module (v_module.Named name block) = is_top_block block
is_module (v_module.Exporting name exports block) = all_of (map is_export exports.exports) && is_top_block block
is_module (v_module.Signature name block) = false

-- the trees of a signature
abbrev pub is_signature : Module → Bool
is_signature (v_module.Signature name block) = is_sig_block block
is_signature _ = false

-- The trees within a limit, of modules, of signatures and of both.
abbrev pub module_form : Option ℕ → Form Terminal Module
module_form limit = record {
  tokens = module_tokens;
  Good = λ m. (is_module m ≡ true) × Within limit (depth_of_module m);
  extends = λ m k. false;
}

abbrev pub sig_form : Option ℕ → Form Terminal Module
sig_form limit = record {
  tokens = module_tokens;
  Good = λ m. (is_signature m ≡ true) × Within limit (depth_of_module m);
  extends = λ m k. false;
}

abbrev pub items_form : Option ℕ → Form Terminal Module
items_form limit = record {
  tokens = module_tokens;
  Good = λ m. (is_module m || is_signature m ≡ true) × Within limit (depth_of_module m);
  extends = λ m k. false;
}
