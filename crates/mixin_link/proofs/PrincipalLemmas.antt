-- The principal linking.
use Rattle.std.proofs.Common.{◌≡◌, ◌⊎◌, inl, inr, true, List, [], ◌∷◌, ◌++◌, refl, sym, ap, ◌∙◌, subst}
use Rattle.std.specs.Prelude.{Option, Some, None, unwrap_or}
use Rattle.bp_base.specs.declared.ident.Ident.{Ident}
use Rattle.bp_base.specs.declared.ident.Ident.TheVariants.{Hole}
use Rattle.bp_base.specs.declared.ident.Fill.{Fill}
use Rattle.bp_base.specs.declared.linking.Rename.{Rename}
use Rattle.bp_base.specs.Holes.{has_hole, EachHole}
use Rattle.bp_base.specs.Lists.{Among}
use Rattle.bp_base.specs.Texts.{Text}
use Rattle.bp_base.proofs.TextLemmas.{same_texts, texts_same, one_name}
use Rattle.bp_base.proofs.SetLemmas.{among-either}
use Rattle.unit_identity.specs.Fill.{filled, found, at_hole}
use Rattle.ident_table.specs.Parts.{terms_of}
use Rattle.hole_unify.specs.declared.equation.Equation.{Equation}
use Rattle.hole_unify.specs.declared.equation.IdentUnifyError.{IdentUnifyError}
use Rattle.hole_unify.specs.declared.equation.IdentUnifyError.TheVariants.{Clash, Cycle, NoMemory}
use Rattle.hole_unify.specs.Unifiers.{IsUnifier, HasUnifier}
use Rattle.hole_unify.specs.Causes.{IsCause, FailsAt}
use Rattle.hole_unify.specs.Table.{terms_in}
use Rattle.hole_unify.proofs.AgreementLemmas.{hole-filled}
use Rattle.hole_unify.proofs.CauseLemmas.{front-unifier}
use Rattle.mixin_link.specs.declared.open.OpenInclude.{OpenInclude}
use Rattle.mixin_link.specs.Linkings.{fills_under}
use Rattle.mixin_link.specs.Equations.{equation, equations_of, fills_for, AreOpen}
use Rattle.mixin_link.specs.Laws.{AnswersArePrincipal, PrincipalIsOne, CausesLeaveNone}
use Rattle.mixin_link.proofs.HoleLemmas.{found-fill, kept-holes, holes-kept, holes-of-filled, hole-term}
use Rattle.mixin_link.proofs.HoleLemmas.{term-hole}
use Rattle.mixin_link.proofs.EquationLemmas.{From, has-fills, at-for, equation-from, unifier-links, linking-unifies}

-- ---- holes of the equations

-- a term of equations is a term of a side of one
term-side : (t : Ident) (es : List Equation) → Among t (terms_in es)
    → (e : Equation) × Among e es × (Among t (terms_of e.left) ⊎ Among t (terms_of e.right))
term-side t [] a = absurd a
term-side t (x ∷ es) a = elim (among-either t (terms_of x.left) _ a) [
  | inl h ↦ (x, inl refl, inl h)
  | inr k ↦ elim (among-either t (terms_of x.right) _ k) [
    | inl h ↦ (x, inl refl, inr h)
    | inr h ↦ let r = term-side t es h in (r.0, inr r.1, r.2)
  ]
]

-- the holes of open fills are linkage names
pub each-under : (required : List Text) (rs : List Rename) → ((r : Rename) → Among r rs → Among r.to required)
    → (x : Fill) → Among x (fills_under Hole rs) → EachHole (λ h. Among h required) x.ident
each-under required [] k x a = absurd a
each-under required (r ∷ rs) k x (inl e) = λ h q.
    subst (λ (n : Text). Among n required) (same_texts r.to h (ap (λ (y : Fill). has_hole h y.ident) e ∙ q))
    (k r (inl refl))
each-under required (r ∷ rs) k x (inr a) = each-under required rs (λ y b. k y (inr b)) x a

-- each hole of the equations is a required name
hole-required : (required : List Text) (is : List OpenInclude) → AreOpen required is → (h : Text)
    → Among (Hole h) (terms_in (equations_of required is)) → Among h required
hole-required required is o h a =
    let t = term-side (Hole h) (equations_of required is) a in
    let r = equation-from required is t.0 t.1 in
    at r.0 r.1 t.0 r.2 t.2
  where
    right : (n : Text) (e : Equation) (w : From is n e)
        → Among (Hole h) (terms_of (equation w.source.needs w.provision).right)
        → Among h required
    right n e w m = holes-of-filled (fills_under Hole w.source.needs) (λ k. Among k required)
        (each-under required w.source.needs (o.needed w.source w.listed)) w.provision.ident
        (has-fills Hole w.source.needs w.provision.ident (o.held w.source w.listed w.provision w.provided)) h
        (term-hole h (equation w.source.needs w.provision).right m)

    at : (n : Text) → Among n required → (e : Equation) → From is n e
        → Among (Hole h) (terms_of e.left) ⊎ Among (Hole h) (terms_of e.right) → Among h required
    at n r e w (inl m) =
        let l : Among (Hole h) (terms_of (Hole w.provision.name)) =
        subst (λ (y : Equation). Among (Hole h) (terms_of y.left)) (sym w.states) m in
        subst (λ (k : Text). Among k required) (sym w.named
        ∙ same_texts w.provision.name h (term-hole h (Hole w.provision.name) l)) r
    at n r e w (inr m) = right n e w (subst (λ (y : Equation). Among (Hole h) (terms_of y.right)) (sym w.states) m)

-- ---- answers are principal

pub answers_are_principal : AnswersArePrincipal
answers_are_principal required is f o a occ = record {
  links = unifier-links required is o f a.unifies;
  general = λ g l. (
    fills_for g required,
    λ n r. a.general (fills_for g required) (linking-unifies required is o g l) n
        ∙ at-for g required n r,
  );
  left = λ n h r e. (
    there n h r e,
    kept-holes f (at_hole n f) (a.general f a.unifies n) h e,
  );
  least = λ n m r e. a.least n m e;
}
  where
    by : (n h : Text) → Among n required → (q : Option Ident) → found n f ≡ q → has_hole h (unwrap_or q (Hole n)) ≡ true
        → Among h required
    by n h r None e k = subst (λ (y : Text). Among y required) (same_texts n h k) r
    by n h r (Some i) e k =
        let x = found-fill n f i e in
        hole-required required is o h (occ.parts x.0 x.1 (Hole h)
        (subst (λ (y : Ident). Among (Hole h) (terms_of y)) (sym x.2)
        (hole-term h i k)))

    there : (n h : Text) → Among n required → has_hole h (at_hole n f) ≡ true → Among h required
    there n h r e = by n h r (found n f) refl e

-- ---- there is one

pub principal_is_one : PrincipalIsOne
principal_is_one required is s t a b n r =
    sym (holes-kept f (s n) (λ h e. let l = a.left n h r e in kept h l.0 l.1)) ∙ up n r
  where
    f : List Fill
    f = (a.general t b.links).0

    g : List Fill
    g = (b.general s a.links).0

    up : (m : Text) → Among m required → filled (s m) f ≡ t m
    up = (a.general t b.links).1

    down : (m : Text) → Among m required → filled (t m) g ≡ s m
    down = (b.general s a.links).1

    -- a hole that the one keeps is kept by the other
    kept : (h : Text) → Among h required → s h ≡ Hole h → at_hole h f ≡ Hole h
    kept h m e =
        let over : filled (t h) g ≡ Hole h = down h m ∙ e in
        let k = hole-filled (t h) g h over in
        let l = b.left h k.0 m (ap (has_hole k.0) k.1 ∙ texts_same k.0) in
        let back : s k.0 ≡ Hole h = sym (down k.0 l.0) ∙ ap (λ i. filled i g) (l.1 ∙ sym k.1) ∙ over in
        let one : h ≡ k.0 = one_name h k.0 (b.least h k.0 m k.1) (a.least k.0 h l.0 back) in
        ap (λ i. filled i f) (sym e) ∙ up h m ∙ k.1 ∙ ap Hole (sym one)

-- ---- refusals leave none

fails-all : (es front : List Equation) (label : Text) → FailsAt es front label → HasUnifier es → ⊥
fails-all es front label x u = x.fails (
  u.0,
  front-unifier front _ u.0
      (subst (λ (l : List Equation). IsUnifier l u.0) x.split.4 u.1),
)

no-unifier : (es : List Equation) (e : IdentUnifyError) → IsCause es e → HasUnifier es → e ≡ NoMemory
no-unifier es (Clash label one other) c u = absurd (fails-all es c.0 label c.1 u)
no-unifier es (Cycle label hole) c u = absurd (fails-all es c.0 label c.1 u)
no-unifier es NoMemory c u = refl

pub causes_leave_none : CausesLeaveNone
causes_leave_none required is e s o c l = no-unifier (equations_of required is) e c
    (fills_for s required, linking-unifies required is o s l)
