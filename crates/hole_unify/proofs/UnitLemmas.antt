-- Units of listed terms, and options.
use Rattle.std.proofs.Common.{◌≡◌, Bool, true, false, cond, List, [], ◌∷◌, map, ◌⊎◌, inl, inr, refl, ap, sym, ◌∙◌}
use Rattle.std.proofs.Common.{subst}
use Rattle.std.specs.Prelude.{Option, Some, None}
use Rattle.std.specs.Str.{bytes_eq}
use Rattle.bp_base.proofs.SetLemmas.{among-left, among-right, among-either}
use Rattle.bp_base.proofs.IdentLemmas.{Module-is, Hole-not-Module}
use Rattle.bp_base.specs.declared.ident.Ident.{Ident}
use Rattle.bp_base.specs.declared.ident.Ident.TheVariants.{Hole, Module, Module'}
use Rattle.bp_base.specs.declared.ident.Unit.{Unit as OfUnit, Unit'}
use Rattle.bp_base.specs.declared.ident.Fill.{Fill}
use Rattle.bp_base.specs.declared.ident.Ident.TheBlock.{end_of-Unit, more_of-Unit, Row_of-Fill, end_of-Fill}
use Rattle.bp_base.specs.declared.ident.Ident.TheBlock.{more_of-Fill}
use Rattle.bp_base.specs.Lists.{Among}
use Rattle.bp_base.specs.Texts.{Text, Before, Rise, RiseAfter}
use Rattle.bp_base.proofs.TextLemmas.{same_texts, texts_same, Before-transitive, not_before_itself, Rise-after}
use Rattle.unit_identity.specs.Fill.{found}
use Rattle.ident_table.specs.Parts.{terms_of, terms_below, terms_of_row}
use Rattle.hole_unify.specs.declared.equation.Equation.{Equation}
use Rattle.hole_unify.specs.Causes.{units_of, units_below, units_of_row, units_in}
use Rattle.hole_unify.specs.Table.{is_module, terms_in}
use Rattle.hole_unify.proofs.UnifyingLemmas.{Module-unit}

-- ---- options

pub some-or-none : {A : Type 0} (o : Option A) → (o ≡ None) ⊎ ((a : A) × (o ≡ Some a))
some-or-none None = inl refl
some-or-none (Some a) = inr (a, refl)

pub not-both : {A : Type 0} (o : Option A) (a : A) → o ≡ Some a → o ≡ None → ⊥
not-both o a p q = let f : Some a ≡ None = sym p ∙ q in cc

-- ---- modules

pub module-of : (i : Ident) → is_module i ≡ true → (u : OfUnit) × (m : Text) × (i ≡ Module u m)
module-of (Hole n) e = cc
module-of (Module' s (more_of-Unit u end_of-Unit) m) e = (u, m, Module-is s u m)

-- ---- units

-- the units of listed terms are units of the equations
mutual
  term-unit : (a : Ident) (u : OfUnit) (m : Text) → Among (Module u m) (terms_of a) → Among u (units_of a)
  term-unit (Hole n) u m (inl e) = absurd (Hole-not-Module n u m e)
  term-unit (Hole n) u m (inr h) = absurd h
  term-unit (Module' s (more_of-Unit v end_of-Unit) n) u m (inl e) = inl (Module-unit v u n m e)
  term-unit (Module' s (more_of-Unit v end_of-Unit) n) u m (inr h) = inr (unit-unit v u m h)

  unit-unit : (v u : OfUnit) (m : Text) → Among (Module u m) (terms_below v) → Among u (units_below v)
  unit-unit (Unit' c s r) u m h = row-unit r u m h

  row-unit : {k : _} (r : Row_of-Fill k) (u : OfUnit) (m : Text) → Among (Module u m) (terms_of_row r)
      → Among u (units_of_row r)
  row-unit end_of-Fill u m h = absurd h
  row-unit (more_of-Fill n i r) u m h = elim (among-either (Module u m) (terms_of i) (terms_of_row r) h) [
    | inl a ↦ among-left u (units_of i) _ (term-unit i u m a)
    | inr b ↦ among-right u (units_of i) _ (row-unit r u m b)
  ]

pub listed-unit : (es : List Equation) (u : OfUnit) (m : Text) → Among (Module u m) (terms_in es)
    → Among u (units_in es)
listed-unit [] u m h = absurd h
listed-unit (x ∷ es) u m h = elim (among-either (Module u m) (terms_of x.left) _ h) [
  | inl a ↦ among-left u (units_of x.left) _ (term-unit x.left u m a)
  | inr r ↦ among-right u (units_of x.left) _ (elim (among-either (Module u m) (terms_of x.right) _ r) [
    | inl b ↦ among-left u (units_of x.right) _ (term-unit x.right u m b)
    | inr c ↦ among-right u (units_of x.right) _ (listed-unit es u m c)
  ])
]

-- rising fills are found
before-all : (h : Text) (fs : List Fill) (f : Fill) → RiseAfter h (map (λ x. x.hole) fs) → Among f fs → Before h f.hole
before-all h [] f r a = absurd a
before-all h (x ∷ fs) f r (inl e) = subst (λ z. Before h z.hole) e r.0
before-all h (x ∷ fs) f r (inr a) = Before-transitive h x.hole f.hole r.0 (before-all x.hole fs f r.1 a)

pub found-among : (fs : List Fill) (f : Fill) → Rise (map (λ x. x.hole) fs) → Among f fs
    → found f.hole fs ≡ Some f.ident
found-among [] f r a = absurd a
found-among (x ∷ fs) f r (inl e) = ap (λ b. cond b (Some x.ident) (found f.hole fs))
    (subst (λ z. bytes_eq x.hole z.hole ≡ true) e (texts_same x.hole)) ∙ ap (λ z. Some z.ident) e
found-among (x ∷ fs) f r (inr a) = by (bytes_eq x.hole f.hole) refl (found-among fs f (Rise-after x.hole _ r) a)
  where
    by : (b : Bool) → bytes_eq x.hole f.hole ≡ b → found f.hole fs ≡ Some f.ident
        → cond b (Some x.ident) (found f.hole fs) ≡ Some f.ident
    by true d k = absurd (not_before_itself f.hole
        (subst (λ z. Before z f.hole) (same_texts x.hole f.hole d) (before-all x.hole fs f r a)))
    by false d k = k
