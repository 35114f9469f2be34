-- What the source of a plain module gives has one outcome.
use Rattle.std.proofs.Common.{◌≡◌, ℕ, Option, Some, None, List, [], ◌∷◌, ◌++◌, refl, sym, ap, ◌∙◌, subst}
use Rattle.bp_base.specs.Texts.{Text}
use Rattle.bp_base.specs.declared.code.Code.TheVariants.{IllTyped, ComponentSyntax}
use Rattle.bp_base.specs.declared.defect.Item.TheVariants.{Line, Named}
use Rattle.bp_checks.specs.Check.{IsExact, IsWithin}
use Rattle.bp_checks.specs.Refused.{Refused, Wrong, IsWrong, defect_at}
use Rattle.bp_checks.proofs.CheckLemmas.{IsExact-then, IsWithin-then}
use Rattle.hs_modules.specs.declared.module.Module.{Module}
use Rattle.haskell_module.specs.declared.error.SourceError.{SourceError}
use Rattle.haskell_module.specs.declared.error.SourceError.TheVariants as e
use Rattle.haskell_module.specs.Modules.{IsKept}
use Rattle.haskell_module.proofs.ModuleLemmas.{IsExact-module_read, IsWithin-module_read}
use Rattle.cabal_text.specs.Lines.{kept_lines}
use Rattle.cabal_text.specs.Least.{least_of}
use Rattle.cabal_component.specs.declared.component.Component.{Component}
use Rattle.hs_plain.specs.declared.plain.Binding.{Binding}
use Rattle.hs_plain.specs.declared.plain.PlainModule.{PlainModule}
use Rattle.plain_trees.specs.Plain.{plain_of}
use Rattle.plain_check.specs.Typing.{Assumption, assumptions_of, IsTyped, AreTyped}
use Rattle.plain_check.specs.Given.{IsPlaced, module_at, plain_at, source_read, typed, text_of}
use Rattle.plain_check.specs.Asked.{asked, asks_nothing}
use Rattle.plain_check.proofs.OneTextLemmas.{one_flat_text}

-- sources

one_place : (component at : Text) (error other : SourceError) (r q : Refused) → error ≡ other
    → IsPlaced component at error r → IsPlaced component at other q → r ≡ q
one_place component at (e.LeftOut n) other r q same p z =
    p ∙ sym (subst (λ (x : SourceError). IsPlaced component at x q) (sym same) z)
one_place component at (e.Lexical n) other r q same p z =
    p ∙ sym (subst (λ (x : SourceError). IsPlaced component at x q) (sym same) z)
one_place component at (e.Layout n) other r q same p z =
    p ∙ sym (subst (λ (x : SourceError). IsPlaced component at x q) (sym same) z)
one_place component at (e.Syntax n) other r q same p z =
    p ∙ sym (subst (λ (x : SourceError). IsPlaced component at x q) (sym same) z)
one_place component at e.Nesting other r q same p z =
    p ∙ sym (subst (λ (x : SourceError). IsPlaced component at x q) (sym same) z)
one_place component at e.NoMemory other r q same p z = absurd p

IsExact-module_at : (nesting : Option ℕ) (component at bytes : Text) → IsExact (module_at nesting component at bytes)
unfolding module_at
IsExact-module_at nesting component at bytes =
    let exact = IsExact-module_read nesting at bytes in record {
      one_answer = exact.one_answer;
      one_refusal = λ r q p z. one_place component at p.0 z.0 r q (exact.one_refusal p.0 z.0 p.1 z.1) p.2 z.2;
      never_both = λ b r p z. exact.never_both b z.0 p z.1;
    }

same_plain : (o : Option PlainModule) (a b : PlainModule) → o ≡ Some a → o ≡ Some b → a ≡ b
same_plain o a b e f = let p : Some a ≡ Some b = sym e ∙ f in cc

not_plain : (o : Option PlainModule) (a : PlainModule) → o ≡ Some a → o ≡ None → ⊥
not_plain o a e f = cc (e, f)

IsExact-plain_at : (component at : Text) (tree : Module) → IsExact (plain_at component at tree)
unfolding plain_at
IsExact-plain_at component at tree = record {
  one_answer = λ a b p q. same_plain (plain_of tree) a b p q;
  one_refusal = λ r q p z. p.1 ∙ sym z.1;
  never_both = λ b r p z. not_plain (plain_of tree) b p z.0;
}

-- a source is one plain module
pub IsExact-source_read : (nesting : Option ℕ) (component at bytes : Text)
    → IsExact (source_read nesting component at bytes)
unfolding source_read
IsExact-source_read nesting component at bytes =
    IsExact-then _ _ (IsExact-module_at nesting component at bytes) (IsExact-plain_at component at)

-- what is wrong with a source within a nesting is so without one
kept_place : (component at : Text) (error : SourceError) (r : Refused) → IsWrong r → IsPlaced component at error r
    → IsKept error
kept_place component at (e.LeftOut n) r k p = tt
kept_place component at (e.Lexical n) r k p = tt
kept_place component at (e.Layout n) r k p = tt
kept_place component at (e.Syntax n) r k p = tt
kept_place component at e.Nesting r k p = subst IsWrong p k
kept_place component at e.NoMemory r k p = absurd p

IsWithin-module_at : (nesting : Option ℕ) (component at bytes : Text)
    → IsWithin IsWrong (module_at nesting component at bytes) (module_at None component at bytes)
unfolding module_at
IsWithin-module_at nesting component at bytes =
    let less = IsWithin-module_read nesting at bytes in record {
      answer = less.answer;
      refusal = λ r k p. (p.0, less.refusal p.0 (kept_place component at p.0 r k p.2) p.1, p.2);
    }

-- what a source is within a nesting it is without one
pub IsWithin-source_read : (nesting : Option ℕ) (component at bytes : Text)
    → IsWithin IsWrong (source_read nesting component at bytes) (source_read None component at bytes)
unfolding source_read
IsWithin-source_read nesting component at bytes =
    IsWithin-then IsWrong _ _ _ _ (IsWithin-module_at nesting component at bytes)
    (λ tree. record { answer = λ m p. p; refusal = λ r k p. p })

-- types

one_ill : (globals : List Assumption) (before rest : List Binding) (it other : Binding) (after more : List Binding)
    → before ++ it ∷ after ≡ rest ++ other ∷ more → AreTyped globals before → AreTyped globals rest
    → (IsTyped globals it → ⊥) → (IsTyped globals other → ⊥) → it ≡ other
one_ill globals [] [] it other after more e t u n k = cc e
one_ill globals [] (b ∷ rest) it other after more e t u n k = let same : b ≡ it = cc e in
    absurd (n (subst (IsTyped globals) same u.0))
one_ill globals (b ∷ before) [] it other after more e t u n k = let same : b ≡ other = cc e in
    absurd (k (subst (IsTyped globals) same t.0))
one_ill globals (b ∷ before) (c ∷ rest) it other after more e t u n k =
    one_ill globals before rest it other after more (cc e) t.1 u.1 n k

not_ill : (globals : List Assumption) (before : List Binding) (it : Binding) (after : List Binding)
    → AreTyped globals (before ++ it ∷ after) → IsTyped globals it
not_ill globals [] it after t = t.0
not_ill globals (b ∷ before) it after t = not_ill globals before it after t.1

pub IsExact-typed : (name : Text) (m : PlainModule) → IsExact (typed name m)
unfolding typed
IsExact-typed name m = record {
  one_answer = λ b c p q. refl;
  one_refusal = λ r q h k.
      let a = h.1 in
      let b = k.1 in
      let same : a.it ≡ b.it = one_ill (assumptions_of m.bindings) a.before b.before a.it b.it a.after b.after
      (sym a.parts ∙ b.parts) a.typed b.typed a.ill b.ill in
      h.2 ∙ (ap (λ (x : Binding). Wrong (defect_at IllTyped name m.name (Named x.occ))) same ∙ sym k.2);
  never_both = λ b r p h.
      let a = h.1 in
      a.ill (not_ill (assumptions_of m.bindings) a.before a.it a.after
      (subst (AreTyped (assumptions_of m.bindings)) a.parts p));
}

-- texts

pub IsExact-text_of : (m : PlainModule) → IsExact (text_of m)
unfolding text_of
IsExact-text_of m = record {
  one_answer = λ t u p q. one_flat_text m t u p q;
  one_refusal = λ r q h k. absurd h;
  never_both = λ t r p h. h;
}

-- what is asked for

same_line : (o : Option ℕ) (a b : ℕ) → o ≡ Some a → o ≡ Some b → a ≡ b
same_line o a b e f = let p : Some a ≡ Some b = sym e ∙ f in cc

no_least : (ls : List ℕ) (n : ℕ) → ls ≡ [] → least_of ls ≡ Some n → ⊥
no_least ls n e f = let p : least_of [] ≡ Some n = ap least_of (sym e) ∙ f in cc

pub IsExact-asks_nothing : (c : Component) (content : Text) → IsExact (asks_nothing c content)
unfolding asks_nothing
IsExact-asks_nothing c content = record {
  one_answer = λ a b p q. refl;
  one_refusal = λ r q p z. p.2 ∙ ap (λ (n : ℕ). Wrong (defect_at ComponentSyntax c.file [] (Line n)))
      (same_line (least_of (asked c (kept_lines content))) p.0 z.0 p.1 z.1) ∙ sym z.2;
  never_both = λ b r p z. no_least (asked c (kept_lines content)) z.0 p z.1;
}
