-- Top declarations, blocks of modules and modules are found again.
use Rattle.std.proofs.Common.{◌≡◌, Bool, true, false, [], ◌∷◌, ◌++◌, refl, sym, subst}
use Rattle.std.proofs.Common.{true≢false, arith}
use Rattle.std.specs.Prelude.{map, ◌&&◌, None}
use Rattle.hs_forms.specs.Reading.{begins}
use Rattle.hs_forms.specs.Answers.{Accepts}
use Rattle.hs_forms.specs.Limits.{all_of}
use Rattle.hs_forms.proofs.FormLemmas.{begins_within}
use Rattle.hs_forms.proofs.LimitLemmas.{and_left, and_right}
use Rattle.hs_tokens.specs.declared.terminal.Terminal.{Terminal}
use Rattle.hs_tokens.specs.declared.terminal.Terminal.TheVariants as t
use Rattle.hs_trees.specs.Patterns.{Ts}
use Rattle.hs_modules.specs.Modules.{depth_of_module}
use Rattle.hs_modules.specs.ModuleTokens.{import_tokens, top_decl_tokens, top_block_tokens, module_tokens}
use Rattle.hs_modules.specs.ModuleForms.{is_top_decl, is_top_block, is_import_list, is_export, is_module}
use Rattle.hs_modules.specs.ModuleForms.{module_form}
use Rattle.hs_modules.specs.Tokens.{spelling_decl}
use Rattle.hs_modules.specs.declared.module.Module.{Module}
use Rattle.hs_modules.specs.declared.module.Module.TheVariants as m
use Rattle.hs_modules.specs.declared.declarations.TopDeclTree.{TopDeclTree}
use Rattle.hs_modules.specs.declared.declarations.TopDeclTree.TheVariants as v
use Rattle.hs_modules.specs.declared.declarations.TopSlot.{TopSlot}
use Rattle.hs_modules.specs.declared.declarations.TopSlot.TheVariants as s
use Rattle.hs_modules.specs.declared.declarations.TopBlock.{TopBlock}
use Rattle.hs_headers.specs.Names.{goes_on}
use Rattle.hs_headers.specs.Heads.{module_head_tokens}
use Rattle.hs_headers.specs.declared.heads.ModuleHead.TheVariants as h
use Rattle.hs_expression_forms.specs.Trees.{Took, behind_token}
use Rattle.hs_expression_forms.specs.Expressions.{last_part}
use Rattle.hs_declaration_forms.specs.Datatypes.{type_decls}
use Rattle.hs_declaration_forms.specs.Typings.{fills_place}
use Rattle.hs_body_forms.specs.declared.parts.TopPart.{TopPart}
use Rattle.hs_body_forms.specs.declared.parts.TopPart.TheVariants as p
use Rattle.hs_body_forms.specs.Bodies.{top_decls, later_slots, decl_runs, parts, is_part, part_goes}
use Rattle.hs_body_forms.specs.Bodies.{part_lists, PartList, block_of, top_blocks}
use Rattle.hs_signature_forms.proofs.PartLemmas.{blank_took}
use Rattle.hs_body_forms.proofs.TopDeclLemmas.{top_type_took, top_decl_took}
use Rattle.hs_body_forms.proofs.PartLemmas.{slot_blank, slot_took, Run, run_chain, part_blank, import_took, run_took}
use Rattle.hs_body_forms.proofs.PartChainLemmas.{part_chain, shut_took}
use Rattle.hs_body_forms.proofs.FlattenLemmas.{block_joins}
use Rattle.hs_body_forms.proofs.ModuleLemmas.{block_took, bare_took, headed_took}
use Rattle.hs_one_tree.specs.Found.{Found}
use Rattle.hs_one_tree.proofs.WholeLemmas.{each_all, told, chain_found, ItemFound}
use Rattle.hs_one_tree.proofs.FoundLemmas.{found}
use Rattle.hs_one_tree.proofs.OneTreeLemmas.{decl_found}
use Rattle.hs_one_tree.proofs.TypeDeclFoundLemmas.{type_decls_found}
use Rattle.hs_one_tree.proofs.HeaderFoundLemmas.{import_at, head_at}

-- top declarations: of types, and those of blocks
type_found : (x : TopDeclTree) → (is_top_decl x ≡ true → type_decls.formed x ≡ true) → Found top_decls x
type_found x such good rest quiet =
    top_type_took None (top_decl_tokens x ++ rest) x rest _ (type_decls_found x (such good) rest quiet)

and_on : (b : Bool) → b ≡ true → b && true ≡ true
and_on true h = refl
and_on false h = h

pub top_decls_found : (x : TopDeclTree) → Found top_decls x
top_decls_found (v.EmptyData n ps) = type_found (v.EmptyData n ps) (and_on _)
top_decls_found (v.Data n ps c cs) = type_found (v.Data n ps c cs) (and_on _)
top_decls_found (v.Newtype n ps c x) = type_found (v.Newtype n ps c x) (and_on _)
top_decls_found (v.Synonym n ps y) = type_found (v.Synonym n ps y) (and_on _)
top_decls_found (v.Decl d) = λ good rest quiet.
    top_decl_took None (spelling_decl d ++ rest) d rest _ (decl_found d good rest quiet)

-- places behind a declaration
slots_found : (k : Terminal) (y : TopSlot) → Found (behind_token k later_slots) y
slots_found k s.Empty = λ good rest quiet.
    found (behind_token k later_slots) (k ∷ rest) s.Empty rest 0 (blank_took later_slots s.Empty slot_blank None k rest
    quiet)
slots_found k (s.Import i) = λ good. absurd (true≢false (sym (and_right (is_import_list i.list) false good)))
slots_found k (s.Decl d) = λ good rest quiet.
    let here = top_decl_tokens d ++ rest in
    found (behind_token k later_slots) (k ∷ here) (s.Decl d) rest _
    (slot_took None k here d rest _ (top_decls_found d (and_left (is_top_decl d) true good) rest quiet))

runs_found : (x : Run) → Found decl_runs x
runs_found x good rest quiet =
    chain_found (run_chain None) decl_runs.deep x.0 x.1 rest (good, tt) quiet
    (λ here q. top_decls_found x.0 (and_left (is_top_decl x.0) _ good) here q)
    (each_all (ItemFound (run_chain None)) (λ y n fine here q. slots_found t.Semicolon y fine.0 here q) x.1)
    (omega arith)

-- parts of a block
import_quiet : (k : Terminal) → fills_place k ≡ false → goes_on k ≡ false
import_quiet t.Semicolon h = refl
import_quiet t.RightBrace h = refl
import_quiet _ h = absurd (true≢false h)

parts_found : (k : Terminal) (x : TopPart) → Found (behind_token k parts) x
parts_found k p.Empty = λ good rest quiet.
    found (behind_token k parts) (k ∷ rest) p.Empty rest 0 (blank_took parts p.Empty part_blank None k rest quiet)
parts_found k (p.Import i) = λ good rest quiet.
    let here = import_tokens i ++ rest in
    found (behind_token k parts) (k ∷ here) (p.Import i) rest 0
    (import_took None k here i rest 0
    (import_at i good rest (begins_within fills_place goes_on rest import_quiet quiet)))
parts_found k (p.Decls d ss) = λ good rest quiet.
    let here = decl_runs.tokens (d, ss) ++ rest in
    found (behind_token k parts) (k ∷ here) (p.Decls d ss) rest _
    (run_took None k here (d, ss) rest _ (runs_found (d, ss) good rest quiet))

brace_part : (x : TopPart) → part_goes x t.RightBrace ≡ false
brace_part p.Empty = refl
brace_part (p.Import i) = refl
brace_part (p.Decls d []) = refl
brace_part (p.Decls d (x ∷ xs)) = refl

-- blocks
blocks_of : (l : PartList) → part_lists.formed l ≡ true → (rest : Ts) →
    Took top_blocks None (top_block_tokens (block_of l) ++ rest) (block_of l) rest (top_blocks.deep (block_of l))
blocks_of l good rest =
    let here = t.RightBrace ∷ rest in
    let both = and_left (is_part l.0 && all_of (map is_part l.1)) _ good in
    let list = chain_found (part_chain None) part_lists.deep l.0 l.1 here (good, tt) (brace_part (last_part l.0 l.1))
    (λ here q. parts_found t.LeftBrace l.0 (and_left (is_part l.0) _ both) here q)
    (each_all (ItemFound (part_chain None)) (λ y n fine here q. parts_found t.Semicolon y fine.0 here q) l.1)
    (omega arith) in
    found top_blocks (part_lists.tokens l ++ here) (block_of l) rest _
    (block_took None (part_lists.tokens l ++ here) l rest _
    (shut_took None (part_lists.tokens l ++ here) l here rest _ list refl))

none_begins : (l : Ts) → begins (λ k. false) l ≡ false
none_begins [] = refl
none_begins (k ∷ l) = refl

block_at : (b : TopBlock) → is_top_block b ≡ true → (rest : Ts) →
    Took top_blocks None (top_block_tokens b ++ rest) b rest (top_blocks.deep b)
block_at b good rest =
    let l = block_joins.only b rest good (none_begins rest) refl in
    subst (λ y. Took top_blocks None (top_block_tokens y ++ rest) y rest (top_blocks.deep y)) (sym l.1)
    (blocks_of l.0 l.2 rest)

-- a module
pub module_at : (x : Module) → is_module x ≡ true → (rest : Ts) →
    Accepts (module_form None) depth_of_module (module_tokens x ++ rest) x rest (depth_of_module x)
module_at (m.Headless b) good rest =
    let ts = top_block_tokens b ++ rest in
    told (module_form None) depth_of_module ts (m.Headless b) rest _ (bare_took None ts b rest _ (block_at b good rest))
module_at (m.Named n b) good rest =
    let here = top_block_tokens b ++ rest in
    let ts = module_head_tokens (h.Named n) ++ here in
    told (module_form None) depth_of_module ts (m.Named n b) rest _
    (headed_took None ts refl (h.Named n) here 0 (head_at (h.Named n) refl here) b rest _ (block_at b good rest))
module_at (m.Exporting n e b) good rest =
    let here = top_block_tokens b ++ rest in
    let ts = module_head_tokens (h.Exporting n e) ++ here in
    told (module_form None) depth_of_module ts (m.Exporting n e b) rest _
    (headed_took None ts refl (h.Exporting n e) here 0
    (head_at (h.Exporting n e) (and_left (all_of (map is_export e.exports)) _ good) here) b rest _
    (block_at b (and_right (all_of (map is_export e.exports)) _ good) rest))
module_at (m.Signature n b) good rest = absurd (true≢false (sym good))
