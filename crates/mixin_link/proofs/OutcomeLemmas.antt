-- Linking a component has one outcome.
use Rattle.std.proofs.Common.{◌≡◌, inl, inr, cond, List, [], ◌∷◌, map, refl, sym, ◌∙◌}
use Rattle.std.specs.Prelude.{Option, Some, None}
use Rattle.bp_base.specs.declared.ident.Ident.{Ident}
use Rattle.bp_base.specs.declared.ident.Ident.TheViews.{roll-Unit}
use Rattle.bp_base.specs.declared.ident.Fill.{Fill}
use Rattle.bp_base.specs.declared.linking.Include.{Include}
use Rattle.bp_base.specs.declared.linking.Linking.{Linking}
use Rattle.bp_base.specs.declared.linking.Rename.{Rename}
use Rattle.bp_base.specs.Lists.{Among}
use Rattle.bp_base.specs.Texts.{Text}
use Rattle.hole_unify.specs.declared.equation.Head.{Head}
use Rattle.hole_unify.specs.declared.equation.IdentUnifyError.TheVariants as cause
use Rattle.cabal_component.specs.declared.component.Component.{Component}
use Rattle.cabal_component.specs.Includes.{includes_of}
use Rattle.mixin_link.specs.declared.error.LinkError.{LinkError}
use Rattle.mixin_link.specs.declared.error.LinkError.TheVariants.{NoProvision, NoRequirement, NameTaken, LinkClash}
use Rattle.mixin_link.specs.declared.error.LinkError.TheVariants.{LinkCycle, NoMemory}
use Rattle.mixin_link.specs.declared.open.OpenInclude.{OpenInclude}
use Rattle.mixin_link.specs.declared.summary.Summary.{Summary}
use Rattle.mixin_link.specs.Equations.{AreOpen}
use Rattle.mixin_link.specs.Summaries.{AreLawful}
use Rattle.mixin_link.specs.Answers.{is_hole, holes_left, assigned, provision_in, include_under, linking_under}
use Rattle.mixin_link.specs.Answers.{open_includes, required_by, IsLinkingOf, IsRefusal}
use Rattle.mixin_link.specs.Laws.{LinkingHasOneOutcome}
use Rattle.mixin_link.proofs.EquationLemmas.{same-under}
use Rattle.mixin_link.proofs.PrincipalLemmas.{principal_is_one, causes_leave_none}
use Rattle.mixin_link.proofs.NameLemmas.{entries-open}

-- ---- assignments that are equal at required names

same-holes : (s t : Text → Ident) (ns : List Text) → ((n : Text) → Among n ns → s n ≡ t n)
    → holes_left s ns ≡ holes_left t ns
same-holes s t [] k = refl
same-holes s t (n ∷ ns) k =
    let rest = same-holes s t ns (λ m a. k m (inr a)) in
    λ j. cond (is_hole n (k n (inl refl) j)) (n ∷ rest j) (rest j)

same-assigned : (s t : Text → Ident) (ns : List Text) → ((n : Text) → Among n ns → s n ≡ t n)
    → map (assigned s) ns ≡ map (assigned t) ns
same-assigned s t [] k = refl
same-assigned s t (n ∷ ns) k =
    let rest = same-assigned s t ns (λ m a. k m (inr a)) in
    λ j. record { name = n; ident = k n (inl refl) j } ∷ rest j

abbrev include_by : OpenInclude → List Fill → Include
include_by i fills = record {
  unit = roll-Unit (record { component = i.component; fills = fills });
  provides = map (provision_in fills) i.provides;
  needs = i.needs;
}

same-includes : (s t : Text → Ident) (is : List OpenInclude)
    → ((i : OpenInclude) → Among i is → (r : Rename) → Among r i.needs → s r.to ≡ t r.to)
    → map (include_under s) is ≡ map (include_under t) is
same-includes s t [] k = refl
same-includes s t (i ∷ is) k =
    let rest = same-includes s t is (λ x a. k x (inr a)) in
    let fills = same-under s t i.needs (k i (inl refl)) in
    λ j. include_by i (fills j) ∷ rest j

-- ---- one outcome

no-refusal : {A : Type 0} (o : Option A) (a : A) → o ≡ None → o ≡ Some a → ⊥
no-refusal o a n s = let e : None ≡ Some a = sym n ∙ s in cc

no-clash : (n : Text) (one other : Head) → cause.Clash n one other ≡ cause.NoMemory → ⊥
no-clash n one other e = cc

no-cycle : (n hole : Text) → cause.Cycle n hole ≡ cause.NoMemory → ⊥
no-cycle n hole e = cc

module _ (c : Component) (ss : List Summary) (lawful : AreLawful ss) where
  are-open : AreOpen (required_by c ss) (open_includes c ss)
  are-open = entries-open ss (includes_of c) c.signatures lawful

  one-linking : (l k : Linking) → IsLinkingOf c ss l → IsLinkingOf c ss k → l ≡ k
  one-linking l k a b = a.linked.written ∙ between ∙ sym b.linked.written
    where
      same : (n : Text) → Among n (required_by c ss) → a.linked.assigns n ≡ b.linked.assigns n
      same = principal_is_one (required_by c ss) (open_includes c ss) a.linked.assigns b.linked.assigns
          a.linked.principal b.linked.principal

      between : linking_under a.linked.assigns (required_by c ss) (open_includes c ss)
          ≡ linking_under b.linked.assigns (required_by c ss) (open_includes c ss)
      between = λ j. record {
        holes = same-holes a.linked.assigns b.linked.assigns (required_by c ss) same j;
        required = same-assigned a.linked.assigns b.linked.assigns (required_by c ss) same j;
        includes = same-includes a.linked.assigns b.linked.assigns (open_includes c ss)
            (λ i m r n. same r.to (are-open.needed i m r n)) j;
      }

  no-refusal-beside : (l : Linking) (e : LinkError) → IsLinkingOf c ss l → IsRefusal c ss e → e ≡ NoMemory
  no-refusal-beside l NoMemory a r = refl
  no-refusal-beside l (NoProvision d n) a r = absurd (no-refusal _ (NoProvision d n) a.fits.entries r)
  no-refusal-beside l (NoRequirement d n) a r = absurd (no-refusal _ (NoRequirement d n) a.fits.entries r)
  no-refusal-beside l (NameTaken n) a r = absurd (no-refusal _ n a.fits.names r.1)
  no-refusal-beside l (LinkClash n) a r = absurd (no-clash n r.1.0 r.1.1 (causes_leave_none (required_by c ss)
      (open_includes c ss) (cause.Clash n r.1.0 r.1.1) a.linked.assigns are-open r.1.2 a.linked.principal.links))
  no-refusal-beside l (LinkCycle n) a r = absurd (no-cycle n r.1.0 (causes_leave_none (required_by c ss)
      (open_includes c ss) (cause.Cycle n r.1.0) a.linked.assigns are-open r.1.1 a.linked.principal.links))

pub linking_has_one_outcome : LinkingHasOneOutcome
linking_has_one_outcome c ss lawful = (one-linking c ss lawful, no-refusal-beside c ss lawful)
