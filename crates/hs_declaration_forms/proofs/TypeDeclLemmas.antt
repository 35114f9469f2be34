-- What declares a type, by its first token.
use Rattle.std.proofs.Common.{◌≡◌, ℕ, Bool, true, false, List, [], ◌∷◌, ◌++◌, length, refl, sym, ap, ◌∙◌, true≢false}
use Rattle.std.specs.Prelude.{not, ◌&&◌, ◌||◌, Option, Result}
use Rattle.std.proofs.lemmas.Bool.{and_from}
use Rattle.hs_forms.specs.Reading.{begins}
use Rattle.hs_forms.specs.declared.fault.Fault.{Fault}
use Rattle.hs_forms.proofs.LimitLemmas.{and_left, and_right}
use Rattle.hs_tokens.specs.Terminals.{is_arrow}
use Rattle.hs_tokens.specs.declared.terminal.Terminal.{Terminal}
use Rattle.hs_tokens.specs.declared.terminal.Terminal.TheVariants as t
use Rattle.hs_trees.specs.Patterns.{Ts}
use Rattle.hs_trees.specs.Types.{starts_atype}
use Rattle.hs_modules.specs.ModuleTokens.{top_decl_tokens}
use Rattle.hs_modules.specs.ModuleForms.{is_top_decl}
use Rattle.hs_modules.specs.declared.declarations.TopDeclTree.{TopDeclTree}
use Rattle.hs_modules.specs.declared.declarations.TopDeclTree.TheVariants as v
use Rattle.hs_modules.proofs.PartDepthLemmas.{type_depth_is}
use Rattle.hs_declarations.specs.Declarations.{is_data_word, is_type_word}
use Rattle.hs_declarations.specs.declared.synonyms.Synonym.{Synonym}
use Rattle.hs_readers.specs.Answers.{Answers}
use Rattle.hs_readers.specs.declared.read.Read.{Read}
use Rattle.hs_tokens.specs.declared.word.Word.TheVariants as w
use Rattle.hs_expression_forms.specs.Trees.{Took, Failed, sort_of}
use Rattle.hs_expression_forms.proofs.TreesLemmas.{stays_first}
use Rattle.hs_block_forms.specs.Blocks.{ends_item}
use Rattle.hs_declaration_forms.specs.Datatypes.{type_decls, datas, newtypes, synonym_trees, is_data, is_newtype}
use Rattle.hs_declaration_forms.specs.Datatypes.{is_newtype_word, declares_type, starts_type_decl}
use Rattle.hs_declaration_forms.proofs.MergeLemmas.{Joins, joined_took, joined_failed}
use Rattle.hs_declaration_forms.proofs.FlatLemmas.{joined_answers}

-- those of some such declarations among all
abbrev as_it_is : TopDeclTree → TopDeclTree
as_it_is x = x

wider : (b a c : Bool) → (a ≡ true → c ≡ true) → b && a ≡ true → b && c ≡ true
wider b a c f e = and_from b c (and_left b a e) (f (and_right b a e))

pub data_joins : Joins type_decls datas as_it_is (begins is_data_word)
data_joins = record {
  tokens = λ x. refl;
  formed = λ x g. wider (is_top_decl x) (is_data x) (declares_type x) (declares x) g;
  deep = λ x. refl;
  extends = λ x k e. e;
  starts = λ x after g. starts x after (and_right (is_top_decl x) _ g);
  only = λ x after g q e. (x, refl, and_from (is_top_decl x) _ (and_left (is_top_decl x) _ g) (only x after g e));
}
  where
    declares : (x : TopDeclTree) → is_data x ≡ true → declares_type x ≡ true
    declares (v.EmptyData n ps) h = refl
    declares (v.Data n ps c cs) h = refl
    declares (v.Newtype n ps c a) h = refl
    declares (v.Synonym n ps y) h = refl
    declares (v.Decl d) h = h

    starts : (x : TopDeclTree) (after : Ts) → is_data x ≡ true → begins is_data_word (top_decl_tokens x ++ after) ≡ true
    starts (v.EmptyData n ps) after h = refl
    starts (v.Data n ps c cs) after h = refl
    starts (v.Newtype n ps c a) after h = absurd (true≢false (sym h))
    starts (v.Synonym n ps y) after h = absurd (true≢false (sym h))
    starts (v.Decl d) after h = absurd (true≢false (sym h))

    only : (x : TopDeclTree) (after : Ts) → type_decls.formed x ≡ true →
        begins is_data_word (top_decl_tokens x ++ after) ≡ true → is_data x ≡ true
    only (v.EmptyData n ps) after g e = refl
    only (v.Data n ps c cs) after g e = refl
    only (v.Newtype n ps c a) after g e = absurd (true≢false (sym e))
    only (v.Synonym n ps y) after g e = absurd (true≢false (sym e))
    only (v.Decl d) after g e = and_right _ false g

pub newtype_joins : Joins type_decls newtypes as_it_is (begins is_newtype_word)
newtype_joins = record {
  tokens = λ x. refl;
  formed = λ x g. wider (is_top_decl x) (is_newtype x) (declares_type x) (declares x) g;
  deep = λ x. refl;
  extends = λ x k e. e;
  starts = λ x after g. starts x after (and_right (is_top_decl x) _ g);
  only = λ x after g q e. (x, refl, and_from (is_top_decl x) _ (and_left (is_top_decl x) _ g) (only x after g e));
}
  where
    declares : (x : TopDeclTree) → is_newtype x ≡ true → declares_type x ≡ true
    declares (v.EmptyData n ps) h = refl
    declares (v.Data n ps c cs) h = refl
    declares (v.Newtype n ps c a) h = refl
    declares (v.Synonym n ps y) h = refl
    declares (v.Decl d) h = h

    starts : (x : TopDeclTree) (after : Ts) → is_newtype x ≡ true →
        begins is_newtype_word (top_decl_tokens x ++ after) ≡ true
    starts (v.EmptyData n ps) after h = absurd (true≢false (sym h))
    starts (v.Data n ps c cs) after h = absurd (true≢false (sym h))
    starts (v.Newtype n ps c a) after h = refl
    starts (v.Synonym n ps y) after h = absurd (true≢false (sym h))
    starts (v.Decl d) after h = absurd (true≢false (sym h))

    only : (x : TopDeclTree) (after : Ts) → type_decls.formed x ≡ true →
        begins is_newtype_word (top_decl_tokens x ++ after) ≡ true → is_newtype x ≡ true
    only (v.EmptyData n ps) after g e = absurd (true≢false (sym e))
    only (v.Data n ps c cs) after g e = absurd (true≢false (sym e))
    only (v.Newtype n ps c a) after g e = refl
    only (v.Synonym n ps y) after g e = absurd (true≢false (sym e))
    only (v.Decl d) after g e = and_right _ false g

abbrev pub make_synonym : Synonym → TopDeclTree
make_synonym x = v.Synonym x.name x.params x.ty

type_goes : (k : Terminal) → not (ends_item k) ≡ false → starts_atype k || is_arrow k ≡ false
type_goes t.Semicolon h = refl
type_goes t.RightBrace h = refl
type_goes _ h = absurd (true≢false h)

pub synonym_joins : Joins type_decls synonym_trees make_synonym (begins is_type_word)
synonym_joins = record {
  tokens = λ x. refl;
  formed = λ x g. and_from (synonym_trees.formed x) true g refl;
  deep = λ x. type_depth_is x.ty;
  extends = λ x k e. type_goes k e;
  starts = λ x after g. refl;
  only = λ x after g q e. only x after g e;
}
  where
    only : (x : TopDeclTree) (after : Ts) → type_decls.formed x ≡ true →
        begins is_type_word (top_decl_tokens x ++ after) ≡ true →
        (p : Synonym) × (x ≡ make_synonym p) × (synonym_trees.formed p ≡ true)
    only (v.EmptyData n ps) after g e = absurd (true≢false (sym e))
    only (v.Data n ps c cs) after g e = absurd (true≢false (sym e))
    only (v.Newtype n ps c a) after g e = absurd (true≢false (sym e))
    only (v.Synonym n ps y) after g e = (record { name = n; params = ps; ty = y }, refl, and_left _ true g)
    only (v.Decl d) after g e = absurd (true≢false (sym (and_right _ false g)))

module _ (limit : Option ℕ) (ts : Ts) where
  pub data_answers : begins is_data_word ts ≡ true → (r : Result (Read TopDeclTree) Fault) →
      Answers (sort_of datas limit) ts r → Answers (sort_of type_decls limit) ts r
  data_answers on r a =
      joined_answers type_decls datas (begins is_data_word) data_joins limit ts (stays_first is_data_word ts on) r a

  pub newtype_answers : begins is_newtype_word ts ≡ true → (r : Result (Read TopDeclTree) Fault) →
      Answers (sort_of newtypes limit) ts r → Answers (sort_of type_decls limit) ts r
  newtype_answers on r a =
      joined_answers type_decls newtypes (begins is_newtype_word) newtype_joins limit ts
      (stays_first is_newtype_word ts on) r a

  pub synonym_took : (x : Synonym) (rest : Ts) (m : ℕ) → Took synonym_trees limit ts x rest m →
      Took type_decls limit ts (make_synonym x) rest m
  synonym_took x rest m acc =
      joined_took type_decls synonym_trees make_synonym (begins is_type_word) synonym_joins limit ts x rest m acc

  pub synonym_failed : begins starts_type_decl ts ≡ true → begins is_data_word ts ≡ false →
      begins is_newtype_word ts ≡ false → (e : Fault) → Failed synonym_trees limit ts e → Failed type_decls limit ts e
  synonym_failed on p q e r =
      joined_failed type_decls synonym_trees make_synonym (begins is_type_word) synonym_joins limit ts e
      (stays_first is_type_word ts (last ts on p q)) r
    where
      last : (ts : Ts) → begins starts_type_decl ts ≡ true → begins is_data_word ts ≡ false →
          begins is_newtype_word ts ≡ false → begins is_type_word ts ≡ true
      last [] on p q = on
      last (t.Word w.Data ∷ ts) on p q = absurd (true≢false p)
      last (t.Word w.Newtype ∷ ts) on p q = absurd (true≢false q)
      last (t.Word w.Type ∷ ts) on p q = refl
      last (_ ∷ ts) on p q = absurd (true≢false (sym on))
