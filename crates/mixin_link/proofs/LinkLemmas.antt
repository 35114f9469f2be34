-- What linking a component answers.
use Rattle.std.proofs.Common.{◌≡◌, List, map, sym, ap, ◌∙◌, subst}
use Rattle.std.specs.Prelude.{None, Result, Ok, Err, MatchResult}
use Rattle.bp_base.specs.declared.ident.Fill.{Fill}
use Rattle.bp_base.specs.declared.linking.Linking.{Linking}
use Rattle.bp_base.specs.Texts.{Text}
use Rattle.unit_identity.specs.Fill.{at_hole}
use Rattle.hole_unify.specs.declared.equation.Equation.{Equation}
use Rattle.hole_unify.specs.Causes.{IsLawful}
use Rattle.hole_unify.specs.Unifiers.{IsAnswer}
use Rattle.hole_unify.specs.Occurrence.{AreOfEquations}
use Rattle.cabal_component.specs.declared.component.Component.{Component}
use Rattle.cabal_component.specs.declared.component.Mixin.{Mixin}
use Rattle.cabal_component.specs.Includes.{includes_of}
use Rattle.mixin_link.specs.declared.error.LinkError.{LinkError}
use Rattle.mixin_link.specs.declared.error.LinkError.TheVariants.{NoProvision, NoRequirement, NameTaken, LinkClash}
use Rattle.mixin_link.specs.declared.error.LinkError.TheVariants.{LinkCycle, NoMemory}
use Rattle.mixin_link.specs.declared.open.OpenInclude.{OpenInclude}
use Rattle.mixin_link.specs.declared.summary.Summary.{Summary}
use Rattle.mixin_link.specs.Summaries.{AreLawful}
use Rattle.mixin_link.specs.Equations.{equations_of, AreOpen}
use Rattle.mixin_link.specs.Opening.{first_refusal, open_in}
use Rattle.mixin_link.specs.Answers.{required_names, own_modules, first_taken, linking_under, open_includes}
use Rattle.mixin_link.specs.Answers.{required_by}
use Rattle.mixin_link.specs.Answers.{IsLinked, Fits, IsLinkingOf, IsUnlinked, IsRefusal}
use Rattle.mixin_link.proofs.PrincipalLemmas.{answers_are_principal}
use Rattle.mixin_link.proofs.NameLemmas.{entries-open}
use Rattle.mixin_link.proofs.UnitLemmas.{equations-lawful, answer-units}

-- the answer to the equations, written down
pub linked-by : (required : List Text) (is : List OpenInclude) (es : List Equation) (f : List Fill) (l : Linking)
    → AreOpen required is → es ≡ equations_of required is → IsAnswer es f → AreOfEquations es f
    → l ≡ linking_under (λ n. at_hole n f) required is → IsLinked required is l
linked-by required is es f l o e a occ w = record {
  assigns = λ n. at_hole n f;
  principal = answers_are_principal required is f o (subst (λ (x : List Equation). IsAnswer x f) e a)
      (subst (λ (x : List Equation). AreOfEquations x f) e occ);
  written = w;
  parts = λ n r u b. answer-units (equations_of required is) f (subst (λ (x : List Equation). AreOfEquations x f) e occ)
      n u b;
}

-- the condition of `linked` is met
pub open-given : (ss : List Summary) (ms : List Mixin) (is : List OpenInclude) (signatures required : List Text)
    → AreLawful ss → is ≡ map (open_in ss) ms → required ≡ required_names signatures is → AreOpen required is
open-given ss ms is signatures required l e r = subst (λ (x : List Text). AreOpen x is) (sym r)
    (subst (λ (x : List OpenInclude). AreOpen (required_names signatures x) x) (sym e)
    (entries-open ss ms signatures l))

-- the equations of such includes meet the condition of unification
pub lawful-given : (ss : List Summary) (ms : List Mixin) (is : List OpenInclude) (required : List Text) → AreLawful ss
    → is ≡ map (open_in ss) ms → IsLawful (equations_of required is)
lawful-given ss ms is required l e = subst (λ (x : List OpenInclude). IsLawful (equations_of required x)) (sym e)
    (equations-lawful ss ms required l)

-- what the steps say of the whole
pub answered : (c : Component) (ss : List Summary) (ms : List Mixin) (is : List OpenInclude) (required : List Text)
    (r : Result Linking LinkError) → ms ≡ includes_of c → first_refusal ss ms ≡ None → is ≡ map (open_in ss) ms
    → required ≡ required_names c.signatures is → first_taken (own_modules c) required ≡ None
    → MatchResult r (IsLinked required is) (IsUnlinked (equations_of required is))
    → MatchResult r (IsLinkingOf c ss) (IsRefusal c ss)
answered c ss ms is required r d f e q t a = by r a
  where
    includes : is ≡ open_includes c ss
    includes = e ∙ ap (map (open_in ss)) d

    names : required ≡ required_by c ss
    names = q ∙ ap (required_names c.signatures) includes

    fits : Fits c ss
    fits = record {
      entries = sym (ap (first_refusal ss) d) ∙ f;
      names = sym (ap (first_taken (own_modules c)) names) ∙ t;
    }

    moved : (P : List Text → List OpenInclude → Type 0) → P required is → P (required_by c ss) (open_includes c ss)
    moved P p = subst (λ (x : List Text). P x (open_includes c ss)) names (subst (P required) includes p)

    refused : (x : LinkError) → IsUnlinked (equations_of required is) x → IsRefusal c ss x
    refused NoMemory u = tt
    refused (NoProvision a n) u = absurd u
    refused (NoRequirement a n) u = absurd u
    refused (NameTaken n) u = absurd u
    refused (LinkClash n) u = (fits, moved (λ x y. IsUnlinked (equations_of x y) (LinkClash n)) u)
    refused (LinkCycle n) u = (fits, moved (λ x y. IsUnlinked (equations_of x y) (LinkCycle n)) u)

    by : (r : Result Linking LinkError) → MatchResult r (IsLinked required is) (IsUnlinked (equations_of required is))
        → MatchResult r (IsLinkingOf c ss) (IsRefusal c ss)
    by (Ok l) u = record { fits = fits; linked = moved (λ x y. IsLinked x y l) u }
    by (Err x) u = refused x u
