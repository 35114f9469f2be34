-- What the measures of modules and signatures are made of.
use Rattle.std.proofs.Common.{◌≡◌, List, length, refl, sym}
use Rattle.std.specs.Prelude.{Bool, map}
use Rattle.bp_base.specs.Texts.{Text}
use Rattle.hs_modules.specs.Extents as e
use Rattle.hs_modules.specs.Measures.{nothing, leaf, beside, node, with_nodes, all_measured}
use Rattle.hs_modules.proofs.MeasuringLemmas.{given, nothing_is, leaf_is, beside_is, node_is, with_nodes_is, all_is}
use Rattle.hs_modules.specs.Measured.{measure_of_atype, measure_of_btype, measure_of_type, measure_of_kind}
use Rattle.hs_modules.specs.Measured.{measure_of_decl, measure_of_side, measure_of_field, measure_of_constr}
use Rattle.hs_modules.specs.Measured.{measure_of_top_decl, measure_of_sig_decl, measure_of_subs, measure_of_export}
use Rattle.hs_modules.specs.Measured.{measure_of_exports, measure_of_item, measure_of_import_list, measure_of_import}
use Rattle.hs_modules.specs.Measured.{measure_of_top_slot, measure_of_top_block, measure_of_sig_slot}
use Rattle.hs_modules.specs.Measured.{measure_of_sig_block, measure_of_module}
use Rattle.hs_modules.specs.PartExtents.{extent_of_atype, extent_of_type, extent_of_kind}
use Rattle.hs_modules.specs.ExpressionExtents.{extent_of_decl}
use Rattle.hs_modules.specs.Modules.{extent_of_side, extent_of_field, extent_of_constr, extent_of_top_decl}
use Rattle.hs_modules.specs.Modules.{extent_of_subs, extent_of_export, extent_of_exports, extent_of_item}
use Rattle.hs_modules.specs.Modules.{extent_of_import_list, extent_of_top_slot, extent_of_top_block, extent_of_sig_slot}
use Rattle.hs_modules.specs.Modules.{extent_of_sig_block}
use Rattle.hs_trees.specs.declared.types.ATypeTree.{ATypeTree}
use Rattle.hs_trees.specs.declared.types.BTypeTree.{BTypeTree}
use Rattle.hs_trees.specs.declared.types.TypeTree.{TypeTree}
use Rattle.hs_trees.specs.declared.types.KindTree.{KindTree}
use Rattle.hs_trees.specs.declared.patterns.VarTree.{VarTree}
use Rattle.hs_modules.specs.declared.names.QVarTree.{QVarTree}
use Rattle.hs_modules.specs.declared.names.ConTree.{ConTree}
use Rattle.hs_modules.specs.declared.names.ConOpTree.{ConOpTree}
use Rattle.hs_modules.specs.declared.expressions.DeclTree.{DeclTree}
use Rattle.hs_modules.specs.declared.module.CNameTree.{CNameTree}
use Rattle.hs_modules.specs.declared.declarations.ConstrSide.{ConstrSide}
use Rattle.hs_modules.specs.declared.declarations.ConstrSide.TheVariants as v_side
use Rattle.hs_modules.specs.declared.declarations.Field.{Field}
use Rattle.hs_modules.specs.declared.declarations.ConstrTree.{ConstrTree}
use Rattle.hs_modules.specs.declared.declarations.ConstrTree.TheVariants as v_constr
use Rattle.hs_modules.specs.declared.declarations.TopDeclTree.{TopDeclTree}
use Rattle.hs_modules.specs.declared.declarations.TopDeclTree.TheVariants as v_top_decl
use Rattle.hs_modules.specs.declared.declarations.SigDeclTree.{SigDeclTree}
use Rattle.hs_modules.specs.declared.declarations.SigDeclTree.TheVariants as v_sig_decl
use Rattle.hs_modules.specs.declared.module.SubsTree.{SubsTree}
use Rattle.hs_modules.specs.declared.module.SubsTree.TheVariants as v_subs
use Rattle.hs_modules.specs.declared.module.ExportTree.TheVariants as v_export
use Rattle.hs_modules.specs.declared.module.ExportsTree.{ExportsTree}
use Rattle.hs_modules.specs.declared.module.ItemTree.{ItemTree}
use Rattle.hs_modules.specs.declared.module.ItemTree.TheVariants as v_item
use Rattle.hs_modules.specs.declared.module.ImportList.TheVariants as v_import_list
use Rattle.hs_modules.specs.declared.module.ImpDeclTree.{ImpDeclTree}
use Rattle.hs_modules.specs.declared.declarations.TopSlot.TheVariants as v_top_slot
use Rattle.hs_modules.specs.declared.declarations.TopBlock.{TopBlock}
use Rattle.hs_modules.specs.declared.declarations.SigSlot.TheVariants as v_sig_slot
use Rattle.hs_modules.specs.declared.declarations.SigBlock.{SigBlock}
use Rattle.hs_modules.specs.declared.module.Module.TheVariants as v_module

pub side-Lazy : (btype : BTypeTree) → measure_of_side (v_side.Lazy btype) ≡ measure_of_btype btype
unfolding measure_of_btype measure_of_side
side-Lazy btype = refl

pub side-Strict : (atype : ATypeTree) → measure_of_side (v_side.Strict atype) ≡ measure_of_atype atype
unfolding measure_of_atype measure_of_side
side-Strict atype = refl

pub field_measured : (t : Field) → measure_of_field t ≡ measure_of_atype t.atype
unfolding measure_of_atype measure_of_field
field_measured t = refl

pub constr-Prefix : (con : ConTree) (fields : List Field)
    → measure_of_constr (v_constr.Prefix con fields) ≡ node (all_measured measure_of_field fields)
unfolding measure_of_constr measure_of_field
constr-Prefix con fields = sym (node_is (e.all_beside (map extent_of_field fields)) (all_is extent_of_field fields))

pub constr-Infix : (left : ConstrSide) (op : ConOpTree) (right : ConstrSide)
    → measure_of_constr (v_constr.Infix left op right) ≡ node (beside (measure_of_side left) (measure_of_side right))
unfolding measure_of_constr measure_of_side
constr-Infix left op right = sym (node_is (e.beside (extent_of_side left) (extent_of_side right))
    (beside_is (extent_of_side left) (extent_of_side right) (given (extent_of_side left))
    (given (extent_of_side right))))

pub top_decl-EmptyData : (name : Text) (params : List Text)
    → measure_of_top_decl (v_top_decl.EmptyData name params) ≡ leaf
unfolding measure_of_top_decl
top_decl-EmptyData name params = sym leaf_is

pub top_decl-Data : (name : Text) (params : List Text) (first : ConstrTree) (rest : List ConstrTree)
    → measure_of_top_decl (v_top_decl.Data name params first rest) ≡ node
    (beside (measure_of_constr first) (all_measured measure_of_constr rest))
unfolding measure_of_constr measure_of_top_decl
top_decl-Data name params first rest = sym (node_is
    (e.beside (extent_of_constr first) (e.all_beside (map extent_of_constr rest)))
    (beside_is (extent_of_constr first) (e.all_beside (map extent_of_constr rest)) (given (extent_of_constr first))
    (all_is extent_of_constr rest)))

pub top_decl-Newtype : (name : Text) (params : List Text) (con : ConTree) (atype : ATypeTree)
    → measure_of_top_decl (v_top_decl.Newtype name params con atype) ≡ node (measure_of_atype atype)
unfolding measure_of_atype measure_of_top_decl
top_decl-Newtype name params con atype = sym (node_is (extent_of_atype atype) (given (extent_of_atype atype)))

pub top_decl-Synonym : (name : Text) (params : List Text) (ty : TypeTree)
    → measure_of_top_decl (v_top_decl.Synonym name params ty) ≡ node (measure_of_type ty)
unfolding measure_of_top_decl measure_of_type
top_decl-Synonym name params ty = sym (node_is (extent_of_type ty) (given (extent_of_type ty)))

pub top_decl-Decl : (decl : DeclTree) → measure_of_top_decl (v_top_decl.Decl decl) ≡ node (measure_of_decl decl)
unfolding measure_of_decl measure_of_top_decl
top_decl-Decl decl = sym (node_is (extent_of_decl decl) (given (extent_of_decl decl)))

pub sig_decl-Top : (decl : TopDeclTree) → measure_of_sig_decl (v_sig_decl.Top decl) ≡ node (measure_of_top_decl decl)
unfolding measure_of_sig_decl measure_of_top_decl
sig_decl-Top decl = sym (node_is (extent_of_top_decl decl) (given (extent_of_top_decl decl)))

pub sig_decl-Kinded : (name : Text) (kind : KindTree)
    → measure_of_sig_decl (v_sig_decl.Kinded name kind) ≡ node (measure_of_kind kind)
unfolding measure_of_kind measure_of_sig_decl
sig_decl-Kinded name kind = sym (node_is (extent_of_kind kind) (given (extent_of_kind kind)))

pub subs-All : measure_of_subs v_subs.All ≡ leaf
unfolding measure_of_subs
subs-All = sym leaf_is

pub subs-Only : (names : List CNameTree) → measure_of_subs (v_subs.Only names) ≡ with_nodes (length names) (leaf)
unfolding measure_of_subs
subs-Only names = sym (with_nodes_is (length names) e.leaf leaf_is)

pub export-Var : (name : QVarTree) → measure_of_export (v_export.Var name) ≡ leaf
unfolding measure_of_export
export-Var name = sym leaf_is

pub export-Type : (name : Text) → measure_of_export (v_export.Type name) ≡ leaf
unfolding measure_of_export
export-Type name = sym leaf_is

pub export-TypeWith : (name : Text) (subs : SubsTree)
    → measure_of_export (v_export.TypeWith name subs) ≡ node (measure_of_subs subs)
unfolding measure_of_export measure_of_subs
export-TypeWith name subs = sym (node_is (extent_of_subs subs) (given (extent_of_subs subs)))

pub export-Module : (name : Text) → measure_of_export (v_export.Module name) ≡ leaf
unfolding measure_of_export
export-Module name = sym leaf_is

pub exports_measured : (t : ExportsTree) → measure_of_exports t ≡ node (all_measured measure_of_export t.exports)
unfolding measure_of_export measure_of_exports
exports_measured t = sym (node_is (e.all_beside (map extent_of_export t.exports)) (all_is extent_of_export t.exports))

pub item-Var : (name : VarTree) → measure_of_item (v_item.Var name) ≡ leaf
unfolding measure_of_item
item-Var name = sym leaf_is

pub item-Type : (name : Text) → measure_of_item (v_item.Type name) ≡ leaf
unfolding measure_of_item
item-Type name = sym leaf_is

pub item-TypeWith : (name : Text) (subs : SubsTree)
    → measure_of_item (v_item.TypeWith name subs) ≡ node (measure_of_subs subs)
unfolding measure_of_item measure_of_subs
item-TypeWith name subs = sym (node_is (extent_of_subs subs) (given (extent_of_subs subs)))

pub import_list-Everything : measure_of_import_list v_import_list.Everything ≡ nothing
unfolding measure_of_import_list
import_list-Everything = sym nothing_is

pub import_list-Only : (items : List ItemTree) (trailing : Bool)
    → measure_of_import_list (v_import_list.Only items trailing) ≡ all_measured measure_of_item items
unfolding measure_of_import_list measure_of_item
import_list-Only items trailing = sym (all_is extent_of_item items)

pub import_list-Hiding : (items : List ItemTree) (trailing : Bool)
    → measure_of_import_list (v_import_list.Hiding items trailing) ≡ all_measured measure_of_item items
unfolding measure_of_import_list measure_of_item
import_list-Hiding items trailing = sym (all_is extent_of_item items)

pub import_measured : (t : ImpDeclTree) → measure_of_import t ≡ node (measure_of_import_list t.list)
unfolding measure_of_import measure_of_import_list
import_measured t = sym (node_is (extent_of_import_list t.list) (given (extent_of_import_list t.list)))

pub top_slot-Empty : measure_of_top_slot v_top_slot.Empty ≡ nothing
unfolding measure_of_top_slot
top_slot-Empty = sym nothing_is

pub top_slot-Import : (decl : ImpDeclTree) → measure_of_top_slot (v_top_slot.Import decl) ≡ measure_of_import decl
unfolding measure_of_import measure_of_top_slot
top_slot-Import decl = refl

pub top_slot-Decl : (decl : TopDeclTree) → measure_of_top_slot (v_top_slot.Decl decl) ≡ measure_of_top_decl decl
unfolding measure_of_top_decl measure_of_top_slot
top_slot-Decl decl = refl

pub top_block_measured : (t : TopBlock) → measure_of_top_block t ≡ beside (measure_of_top_slot t.first)
    (all_measured measure_of_top_slot t.rest)
unfolding measure_of_top_block measure_of_top_slot
top_block_measured t = sym (beside_is (extent_of_top_slot t.first) (e.all_beside (map extent_of_top_slot t.rest))
    (given (extent_of_top_slot t.first)) (all_is extent_of_top_slot t.rest))

pub sig_slot-Empty : measure_of_sig_slot v_sig_slot.Empty ≡ nothing
unfolding measure_of_sig_slot
sig_slot-Empty = sym nothing_is

pub sig_slot-Import : (decl : ImpDeclTree) → measure_of_sig_slot (v_sig_slot.Import decl) ≡ measure_of_import decl
unfolding measure_of_import measure_of_sig_slot
sig_slot-Import decl = refl

pub sig_slot-Decl : (decl : SigDeclTree) → measure_of_sig_slot (v_sig_slot.Decl decl) ≡ measure_of_sig_decl decl
unfolding measure_of_sig_decl measure_of_sig_slot
sig_slot-Decl decl = refl

pub sig_block_measured : (t : SigBlock) → measure_of_sig_block t ≡ beside (measure_of_sig_slot t.first)
    (all_measured measure_of_sig_slot t.rest)
unfolding measure_of_sig_block measure_of_sig_slot
sig_block_measured t = sym (beside_is (extent_of_sig_slot t.first) (e.all_beside (map extent_of_sig_slot t.rest))
    (given (extent_of_sig_slot t.first)) (all_is extent_of_sig_slot t.rest))

pub module-Headless : (block : TopBlock) → measure_of_module (v_module.Headless block) ≡ node
    (measure_of_top_block block)
unfolding measure_of_module measure_of_top_block
module-Headless block = sym (node_is (extent_of_top_block block) (given (extent_of_top_block block)))

pub module-Named : (name : Text) (block : TopBlock)
    → measure_of_module (v_module.Named name block) ≡ node (measure_of_top_block block)
unfolding measure_of_module measure_of_top_block
module-Named name block = sym (node_is (extent_of_top_block block) (given (extent_of_top_block block)))

pub module-Exporting : (name : Text) (exports : ExportsTree) (block : TopBlock)
    → measure_of_module (v_module.Exporting name exports block) ≡ node
    (beside (measure_of_exports exports) (measure_of_top_block block))
unfolding measure_of_exports measure_of_module measure_of_top_block
module-Exporting name exports block = sym (node_is (e.beside (extent_of_exports exports) (extent_of_top_block block))
    (beside_is (extent_of_exports exports) (extent_of_top_block block) (given (extent_of_exports exports))
    (given (extent_of_top_block block))))

pub module-Signature : (name : Text) (block : SigBlock)
    → measure_of_module (v_module.Signature name block) ≡ node (measure_of_sig_block block)
unfolding measure_of_module measure_of_sig_block
module-Signature name block = sym (node_is (extent_of_sig_block block) (given (extent_of_sig_block block)))

pub ruleset module_equations = (
  side-Lazy,
  side-Strict,
  field_measured,
  constr-Prefix,
  constr-Infix,
  top_decl-EmptyData,
  top_decl-Data,
  top_decl-Newtype,
  top_decl-Synonym,
  top_decl-Decl,
  sig_decl-Top,
  sig_decl-Kinded,
  subs-All,
  subs-Only,
  export-Var,
  export-Type,
  export-TypeWith,
  export-Module,
  exports_measured,
  item-Var,
  item-Type,
  item-TypeWith,
  import_list-Everything,
  import_list-Only,
  import_list-Hiding,
  import_measured,
  top_slot-Empty,
  top_slot-Import,
  top_slot-Decl,
  top_block_measured,
  sig_slot-Empty,
  sig_slot-Import,
  sig_slot-Decl,
  sig_block_measured,
  module-Headless,
  module-Named,
  module-Exporting,
  module-Signature,
)
