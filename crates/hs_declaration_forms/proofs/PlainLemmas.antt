-- Declarations that bind nothing, by their first token.
use Rattle.std.proofs.Common.{◌≡◌, ℕ, ◌+◌, Bool, true, false, List, [], ◌∷◌, ◌++◌, length, refl, sym, ap, ◌∙◌, arith}
use Rattle.std.proofs.Common.{true≢false, append_assoc}
use Rattle.std.specs.Prelude.{not, ◌&&◌, Option, max}
use Rattle.hs_forms.specs.Reading.{begins, SameStart}
use Rattle.hs_forms.specs.Answers.{Rejects}
use Rattle.hs_forms.specs.declared.fault.Fault.{Fault}
use Rattle.hs_forms.specs.declared.fault.Fault.TheVariants as fa
use Rattle.hs_forms.proofs.FormLemmas.{begins_append}
use Rattle.hs_forms.proofs.LimitLemmas.{and_left, and_right}
use Rattle.std.proofs.lemmas.Bool.{and_from}
use Rattle.hs_tokens.specs.declared.terminal.Terminal.{Terminal}
use Rattle.hs_tokens.specs.declared.terminal.Terminal.TheVariants as t
use Rattle.hs_tokens.specs.declared.word.Word.TheVariants as w
use Rattle.hs_trees.specs.Patterns.{Ts, var_tokens}
use Rattle.hs_trees.specs.declared.types.TypeTree.{TypeTree}
use Rattle.hs_trees.specs.declared.patterns.VarTree.{VarTree}
use Rattle.hs_trees.specs.declared.patterns.VarTree.TheVariants as va
use Rattle.hs_modules.specs.Tokens.{spelling_decl, fixity_word, level_tokens}
use Rattle.hs_modules.specs.Formed.{facts_of_decl}
use Rattle.hs_modules.specs.ModuleForms.{binds_nothing}
use Rattle.hs_modules.specs.declared.declarations.Fixity.{Fixity}
use Rattle.hs_modules.specs.declared.declarations.Fixity.TheVariants as f
use Rattle.hs_modules.specs.declared.declarations.TopDeclTree.TheVariants as top
use Rattle.hs_modules.specs.declared.expressions.DeclTree.{DeclTree}
use Rattle.hs_headers.specs.Names.{starts_var}
use Rattle.hs_expression_forms.specs.Trees.{Took, Failed, Makes, within}
use Rattle.hs_declaration_forms.specs.Typings.{typings, fixities, FixityHead, plain_decls, starts_fixity}
use Rattle.hs_declaration_forms.proofs.DeclLayerLemmas.{VarParts, OpParts, make_typing, make_fixity, typing_spelled, typing_is}
use Rattle.hs_declaration_forms.proofs.DeclLayerLemmas.{typing_deep, typing_binds, fixity_spelled, fixity_is, fixity_deep}
use Rattle.hs_declaration_forms.proofs.DeclLayerLemmas.{fixity_binds, DeclCase, is_typing, is_fixity, binds, decl_case}
use Rattle.hs_declaration_forms.proofs.MadeLemmas.{tested_took, tested_failed, begins_none, stays_off}
use Rattle.hs_expression_forms.proofs.TreesLemmas.{stays_first}
use Rattle.hs_trees.specs.Types.{spelling_type}

and_true : (a b : Bool) → b ≡ true → a && b ≡ a
and_true true b e = e
and_true false b e = refl

zero_more : (n : ℕ) → n ≡ n + 0
zero_more n = omega arith

var_opens : (x : VarTree) (more : Ts) → begins_none starts_fixity (var_tokens x ++ more) ≡ true
var_opens (va.Id m) more = refl
var_opens (va.Sym m) more = refl

fixity_first : (w : Fixity) (l : Option (List ℕ)) (p : OpParts) (after : Ts) →
    begins starts_fixity (fixities.tokens ((w, l), p) ++ after) ≡ true
fixity_first f.Left l p after = refl
fixity_first f.Right l p after = refl
fixity_first f.Neither l p after = refl

regrouped : (a b c d e : Ts) → (((a ++ b) ++ c) ++ d) ++ e ≡ a ++ (b ++ (c ++ (d ++ e)))
regrouped a b c d e = simp append_assoc

typing_first : (p : VarParts × TypeTree) (after : Ts) →
    begins_none starts_fixity (typings.tokens p ++ after) ≡ true
typing_first p after =
    ap (begins_none starts_fixity) (regrouped (var_tokens p.0.0) _ (t.DoubleColon ∷ []) (spelling_type p.1) after)
    ∙ var_opens p.0.0 _

apart : (ts : Ts) → begins starts_fixity ts ≡ true → begins_none starts_fixity ts ≡ true → ⊥
apart ts p q = true≢false (sym q ∙ ap not p)

typing_only : (x : DeclTree) (after : Ts) → plain_decls.formed x ≡ true →
    begins_none starts_fixity (spelling_decl x ++ after) ≡ true → (p : VarParts × TypeTree) × (x ≡ make_typing p)
typing_only x after good starts = by (decl_case x)
  where
    by : DeclCase x → (p : VarParts × TypeTree) × (x ≡ make_typing p)
    by (is_typing p is) = (p, is)
    by (is_fixity p is) =
        absurd (apart (spelling_decl x ++ after)
        (ap (λ y. begins starts_fixity (spelling_decl y ++ after)) is
        ∙ ap (λ l. begins starts_fixity (l ++ after)) (fixity_spelled p) ∙ fixity_first p.0.0 p.0.1 p.1 after) starts)
    by (binds free) = absurd (true≢false (sym (and_right (facts_of_decl x).good _ good) ∙ free))

pub typing_makes : Makes plain_decls typings make_typing 0 (begins_none starts_fixity)
typing_makes = record {
  spelled = typing_spelled;
  formed = λ p. and_true (facts_of_decl (make_typing p)).good _ (typing_binds p) ∙ typing_is p;
  deep = λ p. typing_deep p ∙ zero_more (typings.deep p);
  extends = λ p k e. e;
  starts = λ p after good. typing_first p after;
  only = typing_only;
}

fixity_only : (x : DeclTree) (after : Ts) → plain_decls.formed x ≡ true →
    begins starts_fixity (spelling_decl x ++ after) ≡ true → (p : FixityHead × OpParts) × (x ≡ make_fixity p)
fixity_only x after good starts = by (decl_case x)
  where
    by : DeclCase x → (p : FixityHead × OpParts) × (x ≡ make_fixity p)
    by (is_typing p is) =
        absurd (apart (spelling_decl x ++ after) starts
        (ap (λ y. begins_none starts_fixity (spelling_decl y ++ after)) is
        ∙ ap (λ l. begins_none starts_fixity (l ++ after)) (typing_spelled p) ∙ typing_first p after))
    by (is_fixity p is) = (p, is)
    by (binds free) = absurd (true≢false (sym (and_right (facts_of_decl x).good _ good) ∙ free))

pub fixity_makes : Makes plain_decls fixities make_fixity 0 (begins starts_fixity)
fixity_makes = record {
  spelled = fixity_spelled;
  formed = λ p. and_true (facts_of_decl (make_fixity p)).good _ (fixity_binds p) ∙ fixity_is p;
  deep = λ p. fixity_deep p ∙ zero_more (fixities.deep p);
  extends = λ p k e. e;
  starts = λ p after good. fixity_first p.0.0 p.0.1 p.1 after;
  only = fixity_only;
}

module _ (limit : Option ℕ) (ts : Ts) where
  pub plain_fixity_took : (p : FixityHead × OpParts) (rest : Ts) (m : ℕ) → Took fixities limit ts p rest m →
      Took plain_decls limit ts (make_fixity p) rest m
  plain_fixity_took p rest m acc =
      tested_took plain_decls fixities make_fixity (begins starts_fixity) fixity_makes limit ts p rest m acc

  pub plain_fixity_failed : begins starts_fixity ts ≡ true → (e : Fault) → Failed fixities limit ts e →
      Failed plain_decls limit ts e
  plain_fixity_failed starts e r =
      tested_failed plain_decls fixities make_fixity (begins starts_fixity) fixity_makes limit ts
      (stays_first starts_fixity ts starts) e r

  pub plain_typing_took : (p : VarParts × TypeTree) (rest : Ts) (m : ℕ) → Took typings limit ts p rest m →
      Took plain_decls limit ts (make_typing p) rest m
  plain_typing_took p rest m acc =
      tested_took plain_decls typings make_typing (begins_none starts_fixity) typing_makes limit ts p rest m acc

  pub plain_typing_failed : begins starts_fixity ts ≡ false → (e : Fault) → Failed typings limit ts e →
      Failed plain_decls limit ts e
  plain_typing_failed off e r =
      tested_failed plain_decls typings make_typing (begins_none starts_fixity) typing_makes limit ts
      (stays_off starts_fixity ts off) e r
