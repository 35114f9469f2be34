-- How large and how deep modules and signatures are. The places of a block are no nodes, and each name of an export or
-- import list is one. Names have no depth, and the brackets
-- of such lists add none.
use Rattle.std.specs.Prelude.{ℕ, length, map}
use Rattle.hs_modules.specs.Extents.{Extent, nothing, leaf, beside, all_beside, node, with_nodes}
use Rattle.hs_modules.specs.PartExtents.{extent_of_atype, extent_of_btype, extent_of_type, extent_of_kind}
use Rattle.hs_modules.specs.ExpressionExtents.{extent_of_decl}
use Rattle.hs_modules.specs.declared.declarations.ConstrSide.{ConstrSide}
use Rattle.hs_modules.specs.declared.declarations.ConstrSide.TheVariants as v_side
use Rattle.hs_modules.specs.declared.declarations.Field.{Field}
use Rattle.hs_modules.specs.declared.declarations.ConstrTree.{ConstrTree}
use Rattle.hs_modules.specs.declared.declarations.ConstrTree.TheVariants as v_constr
use Rattle.hs_modules.specs.declared.declarations.TopDeclTree.{TopDeclTree}
use Rattle.hs_modules.specs.declared.declarations.TopDeclTree.TheVariants as v_top_decl
use Rattle.hs_modules.specs.declared.declarations.SigDeclTree.{SigDeclTree}
use Rattle.hs_modules.specs.declared.declarations.SigDeclTree.TheVariants as v_sig_decl
use Rattle.hs_modules.specs.declared.module.SubsTree.{SubsTree}
use Rattle.hs_modules.specs.declared.module.SubsTree.TheVariants as v_subs
use Rattle.hs_modules.specs.declared.module.ExportTree.{ExportTree}
use Rattle.hs_modules.specs.declared.module.ExportTree.TheVariants as v_export
use Rattle.hs_modules.specs.declared.module.ExportsTree.{ExportsTree}
use Rattle.hs_modules.specs.declared.module.ItemTree.{ItemTree}
use Rattle.hs_modules.specs.declared.module.ItemTree.TheVariants as v_item
use Rattle.hs_modules.specs.declared.module.ImportList.{ImportList}
use Rattle.hs_modules.specs.declared.module.ImportList.TheVariants as v_import_list
use Rattle.hs_modules.specs.declared.module.ImpDeclTree.{ImpDeclTree}
use Rattle.hs_modules.specs.declared.declarations.TopSlot.{TopSlot}
use Rattle.hs_modules.specs.declared.declarations.TopSlot.TheVariants as v_top_slot
use Rattle.hs_modules.specs.declared.declarations.TopBlock.{TopBlock}
use Rattle.hs_modules.specs.declared.declarations.SigSlot.{SigSlot}
use Rattle.hs_modules.specs.declared.declarations.SigSlot.TheVariants as v_sig_slot
use Rattle.hs_modules.specs.declared.declarations.SigBlock.{SigBlock}
use Rattle.hs_modules.specs.declared.module.Module.{Module}
use Rattle.hs_modules.specs.declared.module.Module.TheVariants as v_module

abbrev pub extent_of_side : ConstrSide → Extent
extent_of_side (v_side.Lazy btype) = extent_of_btype btype
extent_of_side (v_side.Strict atype) = extent_of_atype atype

abbrev pub extent_of_field : Field → Extent
extent_of_field t = extent_of_atype t.atype

abbrev pub extent_of_constr : ConstrTree → Extent
extent_of_constr (v_constr.Prefix con fields) = node (all_beside (map extent_of_field fields))
extent_of_constr (v_constr.Infix left op right) = node (beside (extent_of_side left) (extent_of_side right))

abbrev pub extent_of_top_decl : TopDeclTree → Extent
extent_of_top_decl (v_top_decl.EmptyData name params) = leaf
extent_of_top_decl (v_top_decl.Data name params first rest) =
    node (beside (extent_of_constr first) (all_beside (map extent_of_constr rest)))
extent_of_top_decl (v_top_decl.Newtype name params con atype) = node (extent_of_atype atype)
extent_of_top_decl (v_top_decl.Synonym name params ty) = node (extent_of_type ty)
extent_of_top_decl (v_top_decl.Decl decl) = node (extent_of_decl decl)

abbrev pub extent_of_sig_decl : SigDeclTree → Extent
extent_of_sig_decl (v_sig_decl.Top decl) = node (extent_of_top_decl decl)
extent_of_sig_decl (v_sig_decl.Kinded name kind) = node (extent_of_kind kind)

abbrev pub extent_of_subs : SubsTree → Extent
extent_of_subs v_subs.All = leaf
extent_of_subs (v_subs.Only names) = with_nodes (length names) leaf

abbrev pub extent_of_export : ExportTree → Extent
extent_of_export (v_export.Var name) = leaf
extent_of_export (v_export.Type name) = leaf
extent_of_export (v_export.TypeWith name subs) = node (extent_of_subs subs)
extent_of_export (v_export.Module name) = leaf

abbrev pub extent_of_exports : ExportsTree → Extent
extent_of_exports t = node (all_beside (map extent_of_export t.exports))

abbrev pub extent_of_item : ItemTree → Extent
extent_of_item (v_item.Var name) = leaf
extent_of_item (v_item.Type name) = leaf
extent_of_item (v_item.TypeWith name subs) = node (extent_of_subs subs)

abbrev pub extent_of_import_list : ImportList → Extent
extent_of_import_list v_import_list.Everything = nothing
extent_of_import_list (v_import_list.Only items trailing) = all_beside (map extent_of_item items)
extent_of_import_list (v_import_list.Hiding items trailing) = all_beside (map extent_of_item items)

abbrev pub extent_of_import : ImpDeclTree → Extent
extent_of_import t = node (extent_of_import_list t.list)

abbrev pub extent_of_top_slot : TopSlot → Extent
extent_of_top_slot v_top_slot.Empty = nothing
extent_of_top_slot (v_top_slot.Import decl) = extent_of_import decl
extent_of_top_slot (v_top_slot.Decl decl) = extent_of_top_decl decl

abbrev pub extent_of_top_block : TopBlock → Extent
extent_of_top_block t = beside (extent_of_top_slot t.first) (all_beside (map extent_of_top_slot t.rest))

abbrev pub extent_of_sig_slot : SigSlot → Extent
extent_of_sig_slot v_sig_slot.Empty = nothing
extent_of_sig_slot (v_sig_slot.Import decl) = extent_of_import decl
extent_of_sig_slot (v_sig_slot.Decl decl) = extent_of_sig_decl decl

abbrev pub extent_of_sig_block : SigBlock → Extent
extent_of_sig_block t = beside (extent_of_sig_slot t.first) (all_beside (map extent_of_sig_slot t.rest))

-- a module or signature
abbrev pub extent_of_module : Module → Extent
extent_of_module (v_module.Headless block) = node (extent_of_top_block block)
extent_of_module (v_module.Named name block) = node (extent_of_top_block block)
extent_of_module (v_module.Exporting name exports block) =
    node (beside (extent_of_exports exports) (extent_of_top_block block))
extent_of_module (v_module.Signature name block) = node (extent_of_sig_block block)

abbrev pub size_of_module : Module → ℕ
size_of_module m = (extent_of_module m).size

abbrev pub depth_of_module : Module → ℕ
depth_of_module m = (extent_of_module m).depth
