-- A relation that is closed holds of all that is in one class.
use Rattle.std.proofs.Common.{◌≡◌, ℕ, List, ◌⊎◌, inl, inr, refl, ap, sym, ◌∙◌, subst}
use Rattle.std.specs.Prelude.{Some}
use Rattle.std.proofs.lemmas.Option.{same_Some}
use Rattle.bp_base.specs.declared.ident.Ident.{Ident}
use Rattle.bp_base.specs.declared.ident.Ident.TheVariants.{Module}
use Rattle.bp_base.specs.declared.ident.Unit.{Unit as OfUnit, out-Unit}
use Rattle.unit_identity.specs.Fill.{found}
use Rattle.hole_unify.specs.declared.equation.Equation.{Equation}
use Rattle.bp_base.specs.Lists.{Among}
use Rattle.hole_unify.specs.Classes.{Same, Stated, Itself, Turned, Joined, AtHole}
use Rattle.hole_unify.proofs.UnifyingLemmas.{Module-unit}

-- the relation holds of each equation, both ways, across, and hole by hole
pub record IsClosed (es : List Equation) (R : Ident → Ident → Type 0) : Type 0 where
  pub stated : (e : Equation) → Among e es → R e.left e.right
  pub turned : (a b : Ident) → R a b → R b a
  pub joined : (a b c : Ident) → R a b → R b c → R a c
  pub at_hole : (u v : OfUnit) (m h : List ℕ) (i j : Ident) → (out-Unit u).component ≡ (out-Unit v).component
      → R (Module u m) (Module v m) → found h (out-Unit u).fills ≡ Some i → found h (out-Unit v).fills ≡ Some j → R i j

module _ (es : List Equation) (R : Ident → Ident → Type 0) (c : IsClosed es R) where
  turn : (a b : Ident) → (a ≡ b) ⊎ R a b → (b ≡ a) ⊎ R b a
  turn a b (inl e) = inl (sym e)
  turn a b (inr r) = inr (c.turned a b r)

  join : (x y z : Ident) → (x ≡ y) ⊎ R x y → (y ≡ z) ⊎ R y z → (x ≡ z) ⊎ R x z
  join x y z (inl e) q = subst (λ w. (w ≡ z) ⊎ R w z) (sym e) q
  join x y z (inr r) (inl e) = inr (subst (R x) e r)
  join x y z (inr r) (inr s) = inr (c.joined x y z r s)

  below : (u v : OfUnit) (m h : List ℕ) (i j : Ident) → (out-Unit u).component ≡ (out-Unit v).component
      → (Module u m ≡ Module v m) ⊎ R (Module u m) (Module v m) → found h (out-Unit u).fills ≡ Some i
      → found h (out-Unit v).fills ≡ Some j → (i ≡ j) ⊎ R i j
  below u v m h i j e (inl s) p q = inl (same_Some i j (sym p ∙ ap (λ w. found h (out-Unit w).fills) (Module-unit u v m m s)
      ∙ q))
  below u v m h i j e (inr r) p q = inr (c.at_hole u v m h i j e r p q)

  pub Same-closed : (a b : Ident) → Same es a b → (a ≡ b) ⊎ R a b
  Same-closed a b (Stated e h) = inr (c.stated e h)
  Same-closed a b (Itself x) = inl refl
  Same-closed a b (Turned x y s) = turn x y (Same-closed x y s)
  Same-closed a b (Joined x y z s t) = join x y z (Same-closed x y s) (Same-closed y z t)
  Same-closed a b (AtHole u v m h i j e s p q) = below u v m h i j e (Same-closed (Module u m) (Module v m) s) p q
