-- Declarations of signatures, blocks of them and signatures are found again.
use Rattle.std.proofs.Common.{◌≡◌, Bool, true, false, [], ◌∷◌, ◌++◌, refl, sym, subst}
use Rattle.std.proofs.Common.{true≢false, arith}
use Rattle.std.specs.Prelude.{map, ◌&&◌, None}
use Rattle.std.proofs.lemmas.Bool.{not-true}
use Rattle.hs_forms.specs.Reading.{begins}
use Rattle.hs_forms.specs.Answers.{Accepts}
use Rattle.hs_forms.specs.Limits.{all_of}
use Rattle.hs_forms.proofs.FormLemmas.{begins_within}
use Rattle.hs_forms.proofs.LimitLemmas.{and_left, and_right}
use Rattle.hs_tokens.specs.Terminals.{is_arrow}
use Rattle.hs_tokens.specs.declared.terminal.Terminal.{Terminal}
use Rattle.hs_tokens.specs.declared.terminal.Terminal.TheVariants as t
use Rattle.hs_tokens.specs.declared.word.Word.TheVariants as w
use Rattle.hs_trees.specs.Kinds.{spelling_kind}
use Rattle.hs_trees.specs.Patterns.{Ts}
use Rattle.hs_modules.specs.Words.{has_dot}
use Rattle.hs_modules.specs.Modules.{depth_of_module}
use Rattle.hs_modules.specs.ModuleTokens.{import_tokens, top_decl_tokens, sig_decl_tokens}
use Rattle.hs_modules.specs.ModuleTokens.{sig_block_tokens, module_tokens}
use Rattle.hs_modules.specs.ModuleForms.{is_top_decl, is_sig_decl, is_sig_block, is_import_list, is_signature, sig_form}
use Rattle.hs_modules.specs.Tokens.{spelling_decl}
use Rattle.hs_modules.specs.declared.module.Module.{Module}
use Rattle.hs_modules.specs.declared.module.Module.TheVariants as m
use Rattle.hs_modules.specs.declared.declarations.TopDeclTree.{TopDeclTree}
use Rattle.hs_modules.specs.declared.declarations.TopDeclTree.TheVariants as v
use Rattle.hs_modules.specs.declared.declarations.SigDeclTree.{SigDeclTree}
use Rattle.hs_modules.specs.declared.declarations.SigDeclTree.TheVariants as g
use Rattle.hs_modules.specs.declared.declarations.SigSlot.{SigSlot}
use Rattle.hs_modules.specs.declared.declarations.SigSlot.TheVariants as s
use Rattle.hs_modules.specs.declared.declarations.SigBlock.{SigBlock}
use Rattle.hs_headers.specs.Names.{goes_on}
use Rattle.hs_headers.specs.Heads.{signature_head_form}
use Rattle.hs_declarations.specs.Declarations.{is_double_colon}
use Rattle.hs_declarations.specs.declared.kinded.Kinded.{Kinded}
use Rattle.hs_declarations.proofs.KindedLemmas.{kinded_ok}
use Rattle.hs_expression_forms.specs.Trees.{Took, behind_token}
use Rattle.hs_expression_forms.specs.Expressions.{last_part}
use Rattle.hs_declaration_forms.specs.Datatypes.{type_decls}
use Rattle.hs_declaration_forms.specs.Typings.{fills_place}
use Rattle.hs_signature_forms.specs.declared.parts.SigPart.{SigPart}
use Rattle.hs_signature_forms.specs.declared.parts.SigPart.TheVariants as p
use Rattle.hs_signature_forms.specs.Signatures.{sig_decls, later_slots, decl_runs, parts}
use Rattle.hs_signature_forms.specs.Signatures.{is_part, part_goes, part_lists, PartList}
use Rattle.hs_signature_forms.specs.Signatures.{block_of, sig_blocks}
use Rattle.hs_signature_forms.proofs.SigDeclLemmas.{sig_kinded, sig_declared, decl_type_took, decl_plain_took}
use Rattle.hs_signature_forms.proofs.PartLemmas.{blank_took, slot_blank, slot_took, Run, run_chain, part_blank}
use Rattle.hs_signature_forms.proofs.PartLemmas.{import_took, run_took}
use Rattle.hs_signature_forms.proofs.PartChainLemmas.{part_chain, shut_took}
use Rattle.hs_signature_forms.proofs.FlattenLemmas.{block_joins}
use Rattle.hs_signature_forms.proofs.SignatureLemmas.{block_took, sig_took}
use Rattle.hs_one_tree.specs.Found.{Found}
use Rattle.hs_one_tree.proofs.WholeLemmas.{each_all, told, chain_found, ItemFound}
use Rattle.hs_one_tree.proofs.FoundLemmas.{found}
use Rattle.hs_one_tree.proofs.KindFoundLemmas.{kind_found}
use Rattle.hs_one_tree.proofs.DeclFoundLemmas.{plain_decls_found}
use Rattle.hs_one_tree.proofs.TypeDeclFoundLemmas.{type_decls_found}
use Rattle.hs_one_tree.proofs.HeaderFoundLemmas.{import_at, signature_at}

no_arrow : (k : Terminal) → fills_place k ≡ false → is_arrow k ≡ false
no_arrow t.Semicolon h = refl
no_arrow t.RightBrace h = refl
no_arrow _ h = absurd (true≢false h)

no_colon : (k : Terminal) → fills_place k ≡ false → is_double_colon k ≡ false
no_colon t.Semicolon h = refl
no_colon t.RightBrace h = refl
no_colon _ h = absurd (true≢false h)

-- declarations of types, of types with a kind, and those that bind nothing
type_found : (x : TopDeclTree) → (is_top_decl x ≡ true → type_decls.formed x ≡ true) → Found sig_decls (g.Top x)
type_found x such good rest quiet =
    let ts = top_decl_tokens x ++ rest in
    let acc = type_decls_found x (such (and_left (is_top_decl x) _ good)) rest quiet in
    found sig_decls ts (g.Top x) rest _ (decl_type_took None ts (g.Top x) rest _
    (sig_declared None ts x rest _ acc (begins_within fills_place is_double_colon rest no_colon quiet)))

and_on : (b : Bool) → b ≡ true → b && true ≡ true
and_on true h = refl
and_on false h = h

pub sig_decls_found : (x : SigDeclTree) → Found sig_decls x
sig_decls_found (g.Top (v.EmptyData n ps)) = type_found (v.EmptyData n ps) (and_on _)
sig_decls_found (g.Top (v.Data n ps c cs)) = type_found (v.Data n ps c cs) (and_on _)
sig_decls_found (g.Top (v.Newtype n ps c x)) = type_found (v.Newtype n ps c x) (and_on _)
sig_decls_found (g.Top (v.Synonym n ps y)) = type_found (v.Synonym n ps y) (and_on _)
sig_decls_found (g.Top (v.Decl d)) = λ good rest quiet.
    found sig_decls (spelling_decl d ++ rest) (g.Top (v.Decl d)) rest _
    (decl_plain_took None (spelling_decl d ++ rest) d rest _ (plain_decls_found d good rest quiet))
sig_decls_found (g.Kinded n k) = λ good rest quiet.
    let x : Kinded = record { name = n; kind = k } in
    let body = spelling_kind k ++ rest in
    let behind = t.DoubleColon ∷ body in
    let next = t.Con n ∷ behind in
    let ts = t.Word w.Data ∷ next in
    let kind = kind_found k rest (begins_within fills_place is_arrow rest no_arrow quiet) in
    found sig_decls ts (g.Kinded n k) rest _ (decl_type_took None ts (g.Kinded n k) rest _
    (sig_kinded None ts x rest _
    (kinded_ok None n (not-true (has_dot n) good) ts next behind body k rest _ refl refl refl kind)))

-- places behind a declaration
slots_found : (k : Terminal) (y : SigSlot) → Found (behind_token k later_slots) y
slots_found k s.Empty = λ good rest quiet.
    found (behind_token k later_slots) (k ∷ rest) s.Empty rest 0 (blank_took later_slots s.Empty slot_blank None k rest
    quiet)
slots_found k (s.Import i) = λ good. absurd (true≢false (sym (and_right (is_import_list i.list) false good)))
slots_found k (s.Decl d) = λ good rest quiet.
    let here = sig_decl_tokens d ++ rest in
    found (behind_token k later_slots) (k ∷ here) (s.Decl d) rest _
    (slot_took None k here d rest _ (sig_decls_found d (and_left (is_sig_decl d) true good) rest quiet))

runs_found : (x : Run) → Found decl_runs x
runs_found x good rest quiet =
    chain_found (run_chain None) decl_runs.deep x.0 x.1 rest (good, tt) quiet
    (λ here q. sig_decls_found x.0 (and_left (is_sig_decl x.0) _ good) here q)
    (each_all (ItemFound (run_chain None)) (λ y n fine here q. slots_found t.Semicolon y fine.0 here q) x.1)
    (omega arith)

-- parts of a block
import_quiet : (k : Terminal) → fills_place k ≡ false → goes_on k ≡ false
import_quiet t.Semicolon h = refl
import_quiet t.RightBrace h = refl
import_quiet _ h = absurd (true≢false h)

parts_found : (k : Terminal) (x : SigPart) → Found (behind_token k parts) x
parts_found k p.Empty = λ good rest quiet.
    found (behind_token k parts) (k ∷ rest) p.Empty rest 0 (blank_took parts p.Empty part_blank None k rest quiet)
parts_found k (p.Import i) = λ good rest quiet.
    let here = import_tokens i ++ rest in
    found (behind_token k parts) (k ∷ here) (p.Import i) rest 0
    (import_took None k here i rest 0
    (import_at i good rest (begins_within fills_place goes_on rest import_quiet quiet)))
parts_found k (p.Decls d ss) = λ good rest quiet.
    let here = decl_runs.tokens (d, ss) ++ rest in
    found (behind_token k parts) (k ∷ here) (p.Decls d ss) rest _
    (run_took None k here (d, ss) rest _ (runs_found (d, ss) good rest quiet))

brace_part : (x : SigPart) → part_goes x t.RightBrace ≡ false
brace_part p.Empty = refl
brace_part (p.Import i) = refl
brace_part (p.Decls d []) = refl
brace_part (p.Decls d (x ∷ xs)) = refl

-- blocks
blocks_of : (l : PartList) → part_lists.formed l ≡ true → (rest : Ts) →
    Took sig_blocks None (sig_block_tokens (block_of l) ++ rest) (block_of l) rest (sig_blocks.deep (block_of l))
blocks_of l good rest =
    let here = t.RightBrace ∷ rest in
    let both = and_left (is_part l.0 && all_of (map is_part l.1)) _ good in
    let list = chain_found (part_chain None) part_lists.deep l.0 l.1 here (good, tt) (brace_part (last_part l.0 l.1))
    (λ here q. parts_found t.LeftBrace l.0 (and_left (is_part l.0) _ both) here q)
    (each_all (ItemFound (part_chain None)) (λ y n fine here q. parts_found t.Semicolon y fine.0 here q) l.1)
    (omega arith) in
    found sig_blocks (part_lists.tokens l ++ here) (block_of l) rest _
    (block_took None (part_lists.tokens l ++ here) l rest _
    (shut_took None (part_lists.tokens l ++ here) l here rest _ list refl))

none_begins : (l : Ts) → begins (λ k. false) l ≡ false
none_begins [] = refl
none_begins (k ∷ l) = refl

block_at : (b : SigBlock) → is_sig_block b ≡ true → (rest : Ts) →
    Took sig_blocks None (sig_block_tokens b ++ rest) b rest (sig_blocks.deep b)
block_at b good rest =
    let l = block_joins.only b rest good (none_begins rest) refl in
    subst (λ y. Took sig_blocks None (sig_block_tokens y ++ rest) y rest (sig_blocks.deep y)) (sym l.1)
    (blocks_of l.0 l.2 rest)

-- a signature
pub signature_found : (x : Module) → is_signature x ≡ true → (rest : Ts) →
    Accepts (sig_form None) depth_of_module (module_tokens x ++ rest) x rest (depth_of_module x)
signature_found (m.Headless b) good rest = absurd (true≢false (sym good))
signature_found (m.Named n b) good rest = absurd (true≢false (sym good))
signature_found (m.Exporting n e b) good rest = absurd (true≢false (sym good))
signature_found (m.Signature n b) good rest =
    let here = sig_block_tokens b ++ rest in
    let ts = signature_head_form.tokens n ++ here in
    told (sig_form None) depth_of_module ts (m.Signature n b) rest _
    (sig_took None ts n here 0 (signature_at n here) b rest _ (block_at b good rest))
