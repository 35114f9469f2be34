-- Declarations of signatures: of types, with a kind or not, and those that bind nothing.
use Rattle.std.proofs.Common.{◌≡◌, ℕ, Bool, true, false, List, [], ◌∷◌, ◌++◌, length, refl, sym, ap, ◌∙◌, arith}
use Rattle.std.proofs.Common.{true≢false, append_assoc}
use Rattle.std.specs.Prelude.{not, min, max, map, ◌&&◌, Option}
use Rattle.std.proofs.lemmas.Bool.{and_from}
use Rattle.hs_forms.specs.Reading.{begins, SameStart}
use Rattle.hs_forms.specs.Limits.{deepest}
use Rattle.hs_forms.specs.Answers.{Rejects}
use Rattle.hs_forms.specs.declared.fault.Fault.{Fault}
use Rattle.hs_forms.proofs.FormLemmas.{begins_same}
use Rattle.hs_forms.proofs.LimitLemmas.{and_left, and_right}
use Rattle.hs_tokens.specs.Terminals.{is_arrow}
use Rattle.hs_tokens.specs.declared.terminal.Terminal.{Terminal}
use Rattle.hs_tokens.specs.declared.terminal.Terminal.TheVariants as t
use Rattle.hs_tokens.specs.declared.word.Word.TheVariants as w
use Rattle.hs_trees.specs.Patterns.{Ts, var_tokens}
use Rattle.hs_trees.specs.Types.{spelling_type}
use Rattle.hs_trees.specs.Kinds.{spelling_kind}
use Rattle.hs_trees.specs.declared.patterns.VarTree.{VarTree}
use Rattle.hs_trees.specs.declared.patterns.VarTree.TheVariants as va
use Rattle.hs_modules.specs.Extents.{depth_of}
use Rattle.hs_modules.specs.Modules.{extent_of_item, extent_of_import}
use Rattle.hs_modules.specs.ModuleTokens.{sig_decl_tokens, top_decl_tokens}
use Rattle.hs_modules.specs.ModuleForms.{is_sig_decl, is_top_decl, binds_nothing, is_unqualified}
use Rattle.hs_modules.specs.Tokens.{spelling_decl}
use Rattle.hs_modules.specs.Formed.{facts_of_decl}
use Rattle.hs_modules.specs.declared.declarations.Fixity.{Fixity}
use Rattle.hs_modules.specs.declared.declarations.Fixity.TheVariants as f
use Rattle.hs_modules.specs.declared.declarations.SigDeclTree.{SigDeclTree}
use Rattle.hs_modules.specs.declared.declarations.SigDeclTree.TheVariants as s
use Rattle.hs_modules.specs.declared.declarations.TopDeclTree.{TopDeclTree}
use Rattle.hs_modules.specs.declared.declarations.TopDeclTree.TheVariants as v
use Rattle.hs_modules.specs.declared.expressions.DeclTree.{DeclTree}
use Rattle.hs_modules.specs.declared.module.ItemTree.{ItemTree}
use Rattle.hs_modules.specs.declared.module.ItemTree.TheVariants as i
use Rattle.hs_modules.specs.declared.module.SubsTree.{SubsTree}
use Rattle.hs_modules.specs.declared.module.SubsTree.TheVariants as u
use Rattle.hs_modules.specs.declared.module.ImportList.{ImportList}
use Rattle.hs_modules.specs.declared.module.ImportList.TheVariants as l
use Rattle.hs_modules.specs.Modules.{extent_of_import_list}
use Rattle.hs_modules.specs.declared.module.ImpDeclTree.{ImpDeclTree}
use Rattle.hs_modules.proofs.PartDepthLemmas.{kind_depth_is}
use Rattle.hs_headers.specs.Headers.{import_form}
use Rattle.hs_headers.specs.Names.{is_import_word}
use Rattle.hs_declarations.specs.Declarations.{is_double_colon}
use Rattle.hs_declarations.specs.declared.kinded.Kinded.{Kinded}
use Rattle.hs_expression_forms.specs.Trees.{Took, Failed, within}
use Rattle.hs_expression_forms.proofs.TreesLemmas.{stays_first}
use Rattle.hs_block_forms.specs.Blocks.{ends_item}
use Rattle.hs_declaration_forms.specs.Typings.{plain_decls, typings, fixities, fills_place}
use Rattle.hs_declaration_forms.specs.Datatypes.{type_decls, declares_type, starts_type_decl}
use Rattle.hs_declaration_forms.proofs.FlatLemmas.{Flat}
use Rattle.hs_declaration_forms.proofs.MadeLemmas.{begins_none, stays_off}
use Rattle.hs_declaration_forms.proofs.DeclLayerLemmas.{DeclCase, is_typing, is_fixity, binds, decl_case, typing_spelled}
use Rattle.hs_declaration_forms.proofs.DeclLayerLemmas.{fixity_spelled, OpParts}
use Rattle.hs_declaration_forms.proofs.MergeLemmas.{Joins, Merges, Apart, Side, of_one, of_two, merged_one}
use Rattle.hs_declaration_forms.proofs.MergeLemmas.{merged_two, merged_fails, joined_took, joined_failed, stands_behind}
use Rattle.hs_signature_forms.specs.Signatures.{kinded_trees, sig_types, is_sig_type, sig_decls, imports}

-- imports have no depth
subs_deep : (n : List ℕ) (x : SubsTree) → (extent_of_item (i.TypeWith n x)).depth ≡ 0
subs_deep n u.All = refl
subs_deep n (u.Only names) = refl

item_deep : (x : ItemTree) → (extent_of_item x).depth ≡ 0
item_deep (i.Var n) = refl
item_deep (i.Type n) = refl
item_deep (i.TypeWith n x) = subs_deep n x

items_deep : (xs : List ItemTree) → deepest (map depth_of (map extent_of_item xs)) ≡ 0
items_deep [] = refl
items_deep (x ∷ xs) = omega (arith, item_deep x, items_deep xs)

list_deep : (x : ImportList) → (extent_of_import_list x).depth ≡ 0
list_deep l.Everything = refl
list_deep (l.Only xs b) = items_deep xs
list_deep (l.Hiding xs b) = items_deep xs

pub import_deep : (x : ImpDeclTree) → (extent_of_import x).depth ≡ 0
import_deep x = list_deep x.list

pub import_flat : Flat import_form imports
import_flat = record {
  tokens = λ x. refl;
  formed = λ x g. g;
  good = λ x e. e;
  deep = import_deep;
  extends = λ x k e. e;
}

-- a type with its kind, or its declaration
abbrev pub make_kinded : Kinded → SigDeclTree
make_kinded x = s.Kinded x.name x.kind

abbrev pub make_top : TopDeclTree → SigDeclTree
make_top x = s.Top x

no_arrow : (k : Terminal) → fills_place k ≡ false → is_arrow k ≡ false
no_arrow t.Semicolon h = refl
no_arrow t.RightBrace h = refl
no_arrow _ h = absurd (true≢false h)

types_bind_nothing : (x : TopDeclTree) → declares_type x ≡ true → binds_nothing x ≡ true
types_bind_nothing (v.EmptyData n ps) h = refl
types_bind_nothing (v.Data n ps c cs) h = refl
types_bind_nothing (v.Newtype n ps c a) h = refl
types_bind_nothing (v.Synonym n ps y) h = refl
types_bind_nothing (v.Decl d) h = absurd (true≢false (sym h))

pub type_merges : Merges kinded_trees type_decls sig_types make_kinded make_top
type_merges = record {
  tokens_one = λ x. refl;
  tokens_two = λ x. refl;
  formed_one = λ x g. and_from (is_unqualified x.name) true g refl;
  formed_two = λ x g. (
      let such = and_right (is_top_decl x) (declares_type x) g in
      and_from (is_top_decl x && binds_nothing x) (declares_type x)
      (and_from (is_top_decl x) (binds_nothing x) (and_left (is_top_decl x) (declares_type x) g)
      (types_bind_nothing x such)) such);
  deep_one = λ x. kind_depth_is x.kind;
  deep_two = λ x. refl;
  extends_one = λ x k e. no_arrow k e;
  extends_two = λ x k e. e;
  cases = cases;
}
  where
    cases : (x : SigDeclTree) → sig_types.formed x ≡ true → Side kinded_trees type_decls make_kinded make_top x
    cases (s.Kinded n k) g = of_one (record { name = n; kind = k }) refl (and_left (is_unqualified n) true g)
    cases (s.Top x) g =
        let both = and_left (is_top_decl x && binds_nothing x) (declares_type x) g in
        of_two x refl (and_from (is_top_decl x) (declares_type x) (and_left (is_top_decl x) (binds_nothing x) both)
        (and_right (is_top_decl x && binds_nothing x) (declares_type x) g))

kinded_apart : (x : Kinded) (rest : Ts) → Apart kinded_trees type_decls x rest
kinded_apart x rest r y after same good quiet e = by y good e
  where
    by : (y : TopDeclTree) → type_decls.formed y ≡ true →
        kinded_trees.tokens x ++ r ≡ top_decl_tokens y ++ after → ⊥
    by (v.EmptyData n []) g e =
        let at : t.DoubleColon ∷ (spelling_kind x.kind ++ r) ≡ after = cc in
        true≢false (ap (begins fills_place) at ∙ quiet)
    by (v.EmptyData n (q ∷ qs)) g e = absurd cc
    by (v.Data n [] c cs) g e = absurd cc
    by (v.Data n (q ∷ qs) c cs) g e = absurd cc
    by (v.Newtype n ps c a) g e = absurd cc
    by (v.Synonym n ps z) g e = absurd cc
    by (v.Decl d) g e = true≢false (sym (and_right _ false g))

top_apart : (x : TopDeclTree) (rest : Ts) → type_decls.formed x ≡ true → begins is_double_colon rest ≡ false →
    Apart type_decls kinded_trees x rest
top_apart x rest g off r y after same good quiet e = by x g e
  where
    by : (x : TopDeclTree) → type_decls.formed x ≡ true →
        top_decl_tokens x ++ r ≡ kinded_trees.tokens y ++ after → ⊥
    by (v.EmptyData n []) g e =
        let at : r ≡ t.DoubleColon ∷ (spelling_kind y.kind ++ after) = cc in
        true≢false (sym (ap (begins is_double_colon) at) ∙ begins_same is_double_colon rest r same ∙ off)
    by (v.EmptyData n (q ∷ qs)) g e = absurd cc
    by (v.Data n [] c cs) g e = absurd cc
    by (v.Data n (q ∷ qs) c cs) g e = absurd cc
    by (v.Newtype n ps c a) g e = absurd cc
    by (v.Synonym n ps z) g e = absurd cc
    by (v.Decl d) g e = true≢false (sym (and_right _ false g))

-- the declarations of types among all of a signature
abbrev as_it_is : SigDeclTree → SigDeclTree
as_it_is x = x

plain_first : (d : DeclTree) (after : Ts) → plain_decls.formed d ≡ true →
    (begins starts_type_decl (spelling_decl d ++ after) ≡ false) × (begins fills_place (spelling_decl d ++ after) ≡ true)
    × (begins is_import_word (spelling_decl d ++ after) ≡ false)
plain_first d after g = by (decl_case d)
  where
    regrouped : (a b c d e : Ts) → (((a ++ b) ++ c) ++ d) ++ e ≡ a ++ (b ++ (c ++ (d ++ e)))
    regrouped a b c d e = simp append_assoc

    var_first : (x : VarTree) (more : Ts) →
        (begins starts_type_decl (var_tokens x ++ more) ≡ false) × (begins fills_place (var_tokens x ++ more) ≡ true)
        × (begins is_import_word (var_tokens x ++ more) ≡ false)
    var_first (va.Id m) more = (refl, refl, refl)
    var_first (va.Sym m) more = (refl, refl, refl)

    word_first : (w : Fixity) (l : Option (List ℕ)) (p : OpParts) →
        (begins starts_type_decl (fixities.tokens ((w, l), p) ++ after) ≡ false)
        × (begins fills_place (fixities.tokens ((w, l), p) ++ after) ≡ true)
        × (begins is_import_word (fixities.tokens ((w, l), p) ++ after) ≡ false)
    word_first f.Left l p = (refl, refl, refl)
    word_first f.Right l p = (refl, refl, refl)
    word_first f.Neither l p = (refl, refl, refl)

    by : DeclCase d →
        (begins starts_type_decl (spelling_decl d ++ after) ≡ false) × (begins fills_place (spelling_decl d ++ after) ≡ true)
        × (begins is_import_word (spelling_decl d ++ after) ≡ false)
    by (is_typing p is) =
        let e : spelling_decl d ++ after ≡ typings.tokens p ++ after =
        ap (λ y. spelling_decl y ++ after) is ∙ ap (λ l. l ++ after) (typing_spelled p) in
        let e' = e ∙ regrouped (var_tokens p.0.0) _ (t.DoubleColon ∷ []) (spelling_type p.1) after in
        let both = var_first p.0.0 _ in
        (ap (begins starts_type_decl) e' ∙ both.0, ap (begins fills_place) e' ∙ both.1, ap (begins is_import_word) e' ∙ both.2)
    by (is_fixity p is) =
        let e : spelling_decl d ++ after ≡ fixities.tokens p ++ after =
        ap (λ y. spelling_decl y ++ after) is ∙ ap (λ l. l ++ after) (fixity_spelled p) in
        let both = word_first p.0.0 p.0.1 p.1 in
        (ap (begins starts_type_decl) e ∙ both.0, ap (begins fills_place) e ∙ both.1, ap (begins is_import_word) e ∙ both.2)
    by (binds free) = absurd (true≢false (sym (and_right (facts_of_decl d).good _ g) ∙ free))

pub types_join : Joins sig_decls sig_types as_it_is (begins starts_type_decl)
types_join = record {
  tokens = λ x. refl;
  formed = λ x g. and_left (is_sig_decl x) (is_sig_type x) g;
  deep = λ x. refl;
  extends = λ x k e. e;
  starts = λ x after g. starts x after (and_right (is_sig_decl x) (is_sig_type x) g);
  only = λ x after g q e. (x, refl, and_from (is_sig_decl x) (is_sig_type x) g (only x after g e));
}
  where
    starts : (x : SigDeclTree) (after : Ts) → is_sig_type x ≡ true →
        begins starts_type_decl (sig_decl_tokens x ++ after) ≡ true
    starts (s.Kinded n k) after h = refl
    starts (s.Top (v.EmptyData n ps)) after h = refl
    starts (s.Top (v.Data n ps c cs)) after h = refl
    starts (s.Top (v.Newtype n ps c a)) after h = refl
    starts (s.Top (v.Synonym n ps y)) after h = refl
    starts (s.Top (v.Decl d)) after h = absurd (true≢false (sym h))

    only : (x : SigDeclTree) (after : Ts) → is_sig_decl x ≡ true →
        begins starts_type_decl (sig_decl_tokens x ++ after) ≡ true → is_sig_type x ≡ true
    only (s.Kinded n k) after g e = refl
    only (s.Top (v.EmptyData n ps)) after g e = refl
    only (s.Top (v.Data n ps c cs)) after g e = refl
    only (s.Top (v.Newtype n ps c a)) after g e = refl
    only (s.Top (v.Synonym n ps y)) after g e = refl
    only (s.Top (v.Decl d)) after g e = absurd (true≢false (sym e ∙ (plain_first d after g).0))

abbrev pub make_plain : DeclTree → SigDeclTree
make_plain d = s.Top (v.Decl d)

pub plain_join : Joins sig_decls plain_decls make_plain (begins_none starts_type_decl)
plain_join = record {
  tokens = λ d. refl;
  formed = λ d g. g;
  deep = λ d. refl;
  extends = λ d k e. e;
  starts = λ d after g. ap not (plain_first d after g).0;
  only = λ x after g q e. only x after g e;
}
  where
    only : (x : SigDeclTree) (after : Ts) → is_sig_decl x ≡ true →
        begins_none starts_type_decl (sig_decl_tokens x ++ after) ≡ true →
        (d : DeclTree) × (x ≡ make_plain d) × (plain_decls.formed d ≡ true)
    only (s.Kinded n k) after g e = absurd (true≢false (sym e))
    only (s.Top (v.EmptyData n ps)) after g e = absurd (true≢false (sym e))
    only (s.Top (v.Data n ps c cs)) after g e = absurd (true≢false (sym e))
    only (s.Top (v.Newtype n ps c a)) after g e = absurd (true≢false (sym e))
    only (s.Top (v.Synonym n ps y)) after g e = absurd (true≢false (sym e))
    only (s.Top (v.Decl d)) after g e = (d, refl, g)

-- no declaration begins with what ends one
pub sig_decl_busy : (x : SigDeclTree) (after : Ts) → is_sig_decl x ≡ true →
    begins fills_place (sig_decl_tokens x ++ after) ≡ true
sig_decl_busy (s.Kinded n k) after g = refl
sig_decl_busy (s.Top (v.EmptyData n ps)) after g = refl
sig_decl_busy (s.Top (v.Data n ps c cs)) after g = refl
sig_decl_busy (s.Top (v.Newtype n ps c a)) after g = refl
sig_decl_busy (s.Top (v.Synonym n ps y)) after g = refl
sig_decl_busy (s.Top (v.Decl d)) after g = (plain_first d after g).1

-- nor with an import
pub decl_no_import : (x : SigDeclTree) (after : Ts) → is_sig_decl x ≡ true →
    begins is_import_word (sig_decl_tokens x ++ after) ≡ false
decl_no_import (s.Kinded n k) after g = refl
decl_no_import (s.Top (v.EmptyData n ps)) after g = refl
decl_no_import (s.Top (v.Data n ps c cs)) after g = refl
decl_no_import (s.Top (v.Newtype n ps c a)) after g = refl
decl_no_import (s.Top (v.Synonym n ps y)) after g = refl
decl_no_import (s.Top (v.Decl d)) after g = (plain_first d after g).2

module _ (limit : Option ℕ) (ts : Ts) where
  pub sig_kinded : (x : Kinded) (rest : Ts) (m : ℕ) → Took kinded_trees limit ts x rest m →
      Took sig_types limit ts (make_kinded x) rest m
  sig_kinded x rest m acc =
      merged_one kinded_trees type_decls sig_types make_kinded make_top type_merges limit ts x rest m acc
      (kinded_apart x rest)

  pub sig_declared : (x : TopDeclTree) (rest : Ts) (m : ℕ) → Took type_decls limit ts x rest m →
      begins is_double_colon rest ≡ false → Took sig_types limit ts (make_top x) rest m
  sig_declared x rest m acc off =
      merged_two kinded_trees type_decls sig_types make_kinded make_top type_merges limit ts x rest m acc
      (top_apart x rest acc.reads.good.0 off)

  pub sig_fails : (l n : ℕ) → Rejects (within kinded_trees limit) ts l → Rejects (within type_decls limit) ts n →
      Rejects (within sig_types limit) ts (min l n)
  sig_fails l n r q =
      merged_fails kinded_trees type_decls sig_types make_kinded make_top type_merges limit ts l n r q

  -- `::` stands behind what is declared otherwise
  colon_busy : (rest next : Ts) → rest ≡ t.DoubleColon ∷ next → begins fills_place rest ≡ true
  colon_busy rest next at = ap (begins fills_place) at

  pub declared_goes : (x : TopDeclTree) (rest : Ts) (m : ℕ) → Took type_decls limit ts x rest m → (next : Ts) →
      rest ≡ t.DoubleColon ∷ next → Rejects (within type_decls limit) ts (length rest)
  declared_goes x rest m acc next at =
      stands_behind type_decls fills_place (λ x k. refl) limit ts x rest m acc (colon_busy rest next at)

  pub decl_type_took : (x : SigDeclTree) (rest : Ts) (m : ℕ) → Took sig_types limit ts x rest m →
      Took sig_decls limit ts x rest m
  decl_type_took x rest m acc =
      joined_took sig_decls sig_types as_it_is (begins starts_type_decl) types_join limit ts x rest m acc

  pub decl_type_failed : begins starts_type_decl ts ≡ true → (e : Fault) → Failed sig_types limit ts e →
      Failed sig_decls limit ts e
  decl_type_failed on e r =
      joined_failed sig_decls sig_types as_it_is (begins starts_type_decl) types_join limit ts e
      (stays_first starts_type_decl ts on) r

  pub decl_plain_took : (x : DeclTree) (rest : Ts) (m : ℕ) → Took plain_decls limit ts x rest m →
      Took sig_decls limit ts (make_plain x) rest m
  decl_plain_took x rest m acc =
      joined_took sig_decls plain_decls make_plain (begins_none starts_type_decl) plain_join limit ts x rest m acc

  pub decl_plain_failed : begins starts_type_decl ts ≡ false → (e : Fault) → Failed plain_decls limit ts e →
      Failed sig_decls limit ts e
  decl_plain_failed off e r =
      joined_failed sig_decls plain_decls make_plain (begins_none starts_type_decl) plain_join limit ts e
      (stays_off starts_type_decl ts off) r
