-- What is built is made of the holes and heads of the equations.
use Rattle.std.proofs.Common.{◌≡◌, ℕ, zero, suc, ◌<◌, ◌≤◌, List, [], ◌∷◌, map, inl, inr, refl, ap, sym, ◌∙◌, subst}
use Rattle.std.proofs.Common.{arith}
use Rattle.std.specs.Prelude.{Option, Some}
use Rattle.ident_table.proofs.NumberingLemmas.{terms_below-out, terms_of-Module}
use Rattle.bp_base.specs.declared.ident.Ident.{Ident}
use Rattle.bp_base.specs.declared.ident.Ident.TheVariants.{Hole, Module}
use Rattle.bp_base.specs.declared.ident.Unit.{Unit as OfUnit, out-Unit}
use Rattle.bp_base.specs.declared.ident.Fill.{Fill}
use Rattle.bp_base.specs.declared.ident.Ident.TheBlock.{hidden-the_row-Unit-0}
use Rattle.bp_base.specs.declared.ident.Ident.TheViews.{roll-Unit, out-roll-Unit}
use Rattle.bp_base.specs.Lists.{Among}
use Rattle.bp_base.specs.Texts.{Text}
use Rattle.ident_table.specs.Parts.{terms_of, terms_in_fills}
use Rattle.hole_unify.specs.declared.equation.Equation.{Equation}
use Rattle.hole_unify.specs.Causes.{holes_of}
use Rattle.hole_unify.specs.Table.{Node, terms_in}
use Rattle.hole_unify.specs.Tables.{In, IsTable}
use Rattle.hole_unify.specs.Build.{built_at}
use Rattle.hole_unify.specs.IsFaithful.{Builds, NoFills, MoreFills, made, IsEntry, IsFaithful}
use Rattle.hole_unify.specs.Occurrence.{Occurs}
use Rattle.hole_unify.proofs.ListingLemmas.{some-term}
use Rattle.hole_unify.proofs.UnifyingLemmas.{weight, weights, weight-Module, weight_unit-out}
use denote.Hole.Carrier.{hidden}

among-lighter : (fs : List Fill) (f : Fill) → Among f fs → weight f.ident ≤ weights fs
among-lighter [] f a = absurd a
among-lighter (x ∷ fs) f (inl e) = let h : weight x.ident ≡ weight f.ident = ap (λ z. weight z.ident) e in
    omega (arith, h)
among-lighter (x ∷ fs) f (inr a) = let h = among-lighter fs f a in omega (arith, h)

occurs-module : (es : List Equation) (v u : OfUnit) (n : Text) → Among (Module v n) (terms_in es)
    → (out-Unit v).component ≡ (out-Unit u).component → holes_of v ≡ holes_of u → Occurs es (Module u n)
unfolding hidden-the_row-Unit-0 hidden
occurs-module es v u n a c h = (v, a, c, h)

module _ (u : OfUnit) (l : List Fill) (n : Text) where
  abbrev unit : OfUnit
  unit = roll-Unit (record { component = (out-Unit u).component; fills = l })

  terms-made : terms_of (made u l n) ≡ made u l n ∷ terms_in_fills l
  terms-made =
      terms_of-Module unit n
      ∙ ap (λ z. Module unit n ∷ z) (terms_below-out unit ∙ ap (λ o. terms_in_fills o.fills) (out-roll-Unit _))

  weight-made : weight (made u l n) ≡ suc (weights l)
  weight-made = weight-Module unit n ∙ ap suc (weight_unit-out unit ∙ ap (λ o. weights o.fills) (out-roll-Unit _))

  occurs-made : (es : List Equation) → Among (Module u n) (terms_in es) → map (λ f. f.hole) l ≡ holes_of u
      → Occurs es (made u l n)
  occurs-made es a h =
      occurs-module es u unit n a (sym (ap (λ o. o.component) (out-roll-Unit _)))
      (sym h ∙ sym (ap (λ o. map (λ f. f.hole) o.fills) (out-roll-Unit _)))

module _ (es : List Equation) (nodes : List Node) (built : List (Option Ident)) (table : IsTable es nodes)
    (st : IsFaithful es nodes built) where
  pub in-terms : (t : Ident) (k : ℕ) → In nodes t k → Among t (terms_in es)
  in-terms t k p = subst (λ v. Among v (terms_in es)) p.2 (table.only p.0 p.1)

  builds-holes : (fs l : List Fill) → Builds nodes built fs l → map (λ f. f.hole) l ≡ map (λ f. f.hole) fs
  builds-holes fs l NoFills = refl
  builds-holes fs l (MoreFills f k t gs m p q b) = ap (λ z. f.hole ∷ z) (builds-holes gs m b)

  builds-at : (fs l : List Fill) → Builds nodes built fs l → (f : Fill) → Among f l
      → (k : ℕ) × (built_at k built ≡ Some f.ident)
  builds-at fs l NoFills g a = absurd a
  builds-at fs l (MoreFills f k t gs m p q b) g (inl e) = (k, q ∙ ap (λ z. Some z.ident) e)
  builds-at fs l (MoreFills f k t gs m p q b) g (inr a) = builds-at gs m b g a

  -- whatever stands in what is built for a class
  pub occurs-built : (w k : ℕ) (t : Ident) → weight t < w → built_at k built ≡ Some t → (s : Ident)
      → Among s (terms_of t) → Occurs es s
  occurs-built zero k t lt b s a = absurd (omega (arith, lt))
  occurs-built (suc w) k t lt b s a = by (st.entries k t b) (λ l i light d h. occurs-built w l i light d s h)
    where
      by : IsEntry nodes built k t → ((l : ℕ) (i : Ident) → weight i < w → built_at l built ≡ Some i
          → Among s (terms_of i) → Occurs es s) → Occurs es s
      by (inl h) below = elim (subst (λ z. Among s (terms_of z)) h.is a) [
        | inl e ↦ subst (Occurs es) e (in-terms (Hole h.name) k h.listed)
        | inr n ↦ absurd n
      ]
      by (inr m) below = elim (subst (λ l. Among s l) (ap terms_of m.is ∙ terms-made m.unit m.fills m.name) a) [
        | inl e ↦ subst (Occurs es) e
            (occurs-made m.unit m.fills m.name es (in-terms (Module m.unit m.name) k m.listed)
            (builds-holes (out-Unit m.unit).fills m.fills m.builds))
        | inr c ↦
            let part = some-term m.fills s c in
            let at = builds-at (out-Unit m.unit).fills m.fills m.builds part.0 part.1 in
            let light = among-lighter m.fills part.0 part.1 in
            let top : weight t ≡ suc (weights m.fills) = ap weight m.is ∙ weight-made m.unit m.fills m.name in
            below at.0 (part.0).ident (omega (arith, lt, light, top)) at.1 part.2
      ]
