-- Top declarations: of types, and those that stand in blocks too.
use Rattle.std.proofs.Common.{◌≡◌, ℕ, Bool, true, false, List, [], ◌∷◌, ◌++◌, length, refl, sym, ap, ◌∙◌, subst}
use Rattle.std.proofs.Common.{true≢false, append_assoc}
use Rattle.std.specs.Prelude.{not, ◌&&◌, ◌||◌, Option}
use Rattle.std.specs.Str.{bytes_eq}
use Rattle.std.proofs.lemmas.Bool.{and_from}
use Rattle.hs_forms.specs.Reading.{begins}
use Rattle.hs_forms.specs.declared.fault.Fault.{Fault}
use Rattle.hs_forms.proofs.LimitLemmas.{and_left, and_right}
use Rattle.hs_tokens.specs.Terminals.{minus}
use Rattle.hs_tokens.specs.declared.terminal.Terminal.{Terminal}
use Rattle.hs_tokens.specs.declared.terminal.Terminal.TheVariants as t
use Rattle.hs_trees.specs.Patterns.{Ts, starts_pat, starts_apat, spelling_pat, spelling_lpat, spelling_apat, var_tokens}
use Rattle.hs_trees.specs.declared.patterns.PatTree.{PatTree}
use Rattle.hs_trees.specs.declared.patterns.VarTree.{VarTree}
use Rattle.hs_trees.specs.declared.patterns.VarTree.TheVariants as va
use Rattle.hs_trees.proofs.PatternLayerLemmas.{pat_starts, lpat_starts}
use Rattle.hs_modules.specs.ModuleTokens.{top_decl_tokens}
use Rattle.hs_modules.specs.ModuleForms.{is_top_decl}
use Rattle.hs_modules.specs.Tokens.{token_algebra, spelling_decl, spelling_fun_lhs, fun_lhs_tokens, spelling_rhs}
use Rattle.hs_modules.specs.Tokens.{fixity_word}
use Rattle.hs_modules.specs.Formed.{facts_of_decl}
use Rattle.hs_modules.specs.declared.declarations.Fixity.{Fixity}
use Rattle.hs_modules.specs.declared.declarations.Fixity.TheVariants as f
use Rattle.hs_modules.specs.declared.declarations.TopDeclTree.{TopDeclTree}
use Rattle.hs_modules.specs.declared.declarations.TopDeclTree.TheVariants as v
use Rattle.hs_modules.specs.declared.expressions.DeclTree.{DeclTree, DeclTree-F, out-DeclTree, roll-DeclTree}
use Rattle.hs_modules.specs.declared.expressions.DeclTree.{roll-out-DeclTree}
use Rattle.hs_modules.specs.declared.expressions.DeclTree.TheVariants as d
use Rattle.hs_modules.specs.declared.expressions.FunLhsTree.{FunLhsTree, FunLhsTree-F, out-FunLhsTree, roll-FunLhsTree}
use Rattle.hs_modules.specs.declared.expressions.FunLhsTree.{roll-out-FunLhsTree, fold-roll-FunLhsTree}
use Rattle.hs_modules.proofs.FoldingLemmas.{DeclTrees, decl_folded}
use Rattle.hs_headers.specs.Names.{is_import_word}
use Rattle.hs_expression_forms.specs.Trees.{Took, Failed}
use Rattle.hs_expression_forms.proofs.TreesLemmas.{stays_first}
use Rattle.hs_declaration_forms.specs.Datatypes.{type_decls, declares_type, starts_type_decl}
use Rattle.hs_declaration_forms.proofs.MadeLemmas.{begins_none, stays_off}
use Rattle.hs_declaration_forms.proofs.MergeLemmas.{Joins, joined_took, joined_failed}
use Rattle.hs_declaration_forms.specs.Typings.{fills_place}
use Rattle.hs_binding_forms.specs.Bindings.{decls}
use Rattle.hs_binding_forms.proofs.DeclStartLemmas.{decl_first}
use Rattle.hs_body_forms.specs.Bodies.{top_decls}

-- the declarations of types among all
abbrev as_it_is : TopDeclTree → TopDeclTree
as_it_is x = x

pub types_join : Joins top_decls type_decls as_it_is (begins starts_type_decl)
types_join = record {
  tokens = λ x. refl;
  formed = λ x g. and_left (is_top_decl x) (declares_type x) g;
  deep = λ x. refl;
  extends = λ x k e. e;
  starts = λ x after g. starts x after (and_right (is_top_decl x) (declares_type x) g);
  only = λ x after g q e. (x, refl, and_from (is_top_decl x) (declares_type x) g (only x after e));
}
  where
    starts : (x : TopDeclTree) (after : Ts) → declares_type x ≡ true →
        begins starts_type_decl (top_decl_tokens x ++ after) ≡ true
    starts (v.EmptyData n ps) after h = refl
    starts (v.Data n ps c cs) after h = refl
    starts (v.Newtype n ps c a) after h = refl
    starts (v.Synonym n ps y) after h = refl
    starts (v.Decl d) after h = absurd (true≢false (sym h))

    only : (x : TopDeclTree) (after : Ts) → begins starts_type_decl (top_decl_tokens x ++ after) ≡ true →
        declares_type x ≡ true
    only (v.EmptyData n ps) after e = refl
    only (v.Data n ps c cs) after e = refl
    only (v.Newtype n ps c a) after e = refl
    only (v.Synonym n ps y) after e = refl
    only (v.Decl d) after e = absurd (true≢false (sym e ∙ (decl_first d after).no_type))

abbrev pub make_decl : DeclTree → TopDeclTree
make_decl x = v.Decl x

pub decls_join : Joins top_decls decls make_decl (begins_none starts_type_decl)
decls_join = record {
  tokens = λ x. refl;
  formed = λ x g. g;
  deep = λ x. refl;
  extends = λ x k e. e;
  starts = λ x after g. ap not (decl_first x after).no_type;
  only = λ x after g q e. only x after g e;
}
  where
    only : (x : TopDeclTree) (after : Ts) → is_top_decl x ≡ true →
        begins_none starts_type_decl (top_decl_tokens x ++ after) ≡ true →
        (y : DeclTree) × (x ≡ make_decl y) × (decls.formed y ≡ true)
    only (v.EmptyData n ps) after g e = absurd (true≢false (sym e))
    only (v.Data n ps c cs) after g e = absurd (true≢false (sym e))
    only (v.Newtype n ps c a) after g e = absurd (true≢false (sym e))
    only (v.Synonym n ps y) after g e = absurd (true≢false (sym e))
    only (v.Decl d) after g e = (d, refl, g)

-- no top declaration begins with what ends one, nor with an import
pub top_decl_busy : (x : TopDeclTree) (after : Ts) → is_top_decl x ≡ true →
    begins fills_place (top_decl_tokens x ++ after) ≡ true
top_decl_busy (v.EmptyData n ps) after g = refl
top_decl_busy (v.Data n ps c cs) after g = refl
top_decl_busy (v.Newtype n ps c a) after g = refl
top_decl_busy (v.Synonym n ps y) after g = refl
top_decl_busy (v.Decl d) after g = (decl_first d after).place

pub decl_no_import : (x : TopDeclTree) (after : Ts) → is_top_decl x ≡ true →
    begins is_import_word (top_decl_tokens x ++ after) ≡ false
decl_no_import (v.EmptyData n ps) after g = refl
decl_no_import (v.Data n ps c cs) after g = refl
decl_no_import (v.Newtype n ps c a) after g = refl
decl_no_import (v.Synonym n ps y) after g = refl
decl_no_import (v.Decl d) after g = (decl_first d after).no_import

module _ (limit : Option ℕ) (ts : Ts) where
  pub top_type_took : (x : TopDeclTree) (rest : Ts) (m : ℕ) → Took type_decls limit ts x rest m →
      Took top_decls limit ts x rest m
  top_type_took x rest m acc =
      joined_took top_decls type_decls as_it_is (begins starts_type_decl) types_join limit ts x rest m acc

  pub top_type_failed : begins starts_type_decl ts ≡ true → (e : Fault) → Failed type_decls limit ts e →
      Failed top_decls limit ts e
  top_type_failed on e r =
      joined_failed top_decls type_decls as_it_is (begins starts_type_decl) types_join limit ts e
      (stays_first starts_type_decl ts on) r

  pub top_decl_took : (x : DeclTree) (rest : Ts) (m : ℕ) → Took decls limit ts x rest m →
      Took top_decls limit ts (make_decl x) rest m
  top_decl_took x rest m acc =
      joined_took top_decls decls make_decl (begins_none starts_type_decl) decls_join limit ts x rest m acc

  pub top_decl_failed : begins starts_type_decl ts ≡ false → (e : Fault) → Failed decls limit ts e →
      Failed top_decls limit ts e
  top_decl_failed off e r =
      joined_failed top_decls decls make_decl (begins_none starts_type_decl) decls_join limit ts e
      (stays_off starts_type_decl ts off) r
