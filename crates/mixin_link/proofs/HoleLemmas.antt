-- Holes in identities that are filled.
use Rattle.std.proofs.Common.{◌≡◌, inl, inr, true, false, Bool, List, [], ◌∷◌, refl, sym, ap, ◌∙◌, subst}
use Rattle.std.specs.Prelude.{Some, None, Option, IsSome, unwrap_or, cond}
use Rattle.std.specs.Str.{bytes_eq}
use Rattle.std.proofs.lemmas.Bool.{or_cases, or_left, or_right}
use Rattle.bp_base.specs.declared.ident.Ident.{Ident}
use Rattle.bp_base.specs.declared.ident.Ident.TheVariants.{Hole, Module, Module'}
use Rattle.bp_base.specs.declared.ident.Unit.{Unit as OfUnit, Unit', out-Unit}
use Rattle.bp_base.specs.declared.ident.Fill.{Fill}
use Rattle.bp_base.specs.declared.ident.Ident.TheBlock.{end_of-Unit, more_of-Unit, Row_of-Fill, end_of-Fill}
use Rattle.bp_base.specs.declared.ident.Ident.TheBlock.{more_of-Fill}
use Rattle.bp_base.specs.Holes.{has_hole, unit_has_hole, row_has_hole, EachHole}
use Rattle.bp_base.specs.Lists.{Among}
use Rattle.bp_base.specs.Texts.{Text}
use Rattle.bp_base.proofs.TextLemmas.{same_texts, texts_same}
use Rattle.bp_base.proofs.SetLemmas.{among-left, among-right, among-either}
use Rattle.bp_base.proofs.IdentLemmas.{EachFill, ident-induction, unit-same, Hole-name, Hole-not-Module}
use Rattle.bp_base.proofs.HoleLemmas.{EachHole-fills, fills-EachHole}
use Rattle.unit_identity.specs.Fill.{filled, filled_unit, composed, found, at_hole}
use Rattle.unit_identity.proofs.FillLemmas.{filled-Module}
use Rattle.unit_identity.proofs.FilledLemmas.{HasFill}
use Rattle.ident_table.specs.Parts.{terms_of, terms_below, terms_of_row}
use Rattle.hole_unify.proofs.UnifyingLemmas.{Module-unit, component-filled, fills-filled}
use Rattle.hole_unify.proofs.CauseLemmas.{list-head, list-tail}

-- what is found stands among the fills
pub found-fill : (n : Text) (fs : List Fill) (i : Ident) → found n fs ≡ Some i
    → (x : Fill) × Among x fs × (x.ident ≡ i)
found-fill n [] i e = cc
found-fill n (x ∷ fs) i e = by (bytes_eq x.hole n) e (found-fill n fs i)
  where
    by : (b : Bool) → cond b (Some x.ident) (found n fs) ≡ Some i
        → (found n fs ≡ Some i → (y : Fill) × Among y fs × (y.ident ≡ i))
        → (y : Fill) × Among y (x ∷ fs) × (y.ident ≡ i)
    by true e k = (x, inl refl, cc)
    by false e k = let r = k e in (r.0, inr r.1, r.2)

module _ (f : List Fill) where
  -- the fills leave each hole that occurs as it is
  abbrev pub Keeps : Ident → Type 0
  Keeps i = EachHole (λ h. at_hole h f ≡ Hole h) i

  abbrev Both : Ident → Type 0
  Both i = (filled i f ≡ i → Keeps i) × (Keeps i → filled i f ≡ i)

  keeps-hole : (n : Text) → Both (Hole n)
  keeps-hole n = (
    (λ e h q. subst (λ (k : Text). at_hole k f ≡ Hole k) (same_texts n h q) e),
    (λ k. k n (texts_same n)),
  )

  fills-kept : (gs : List Fill) → EachFill Both gs
      → (composed gs f ≡ gs → EachFill Keeps gs) × (EachFill Keeps gs → composed gs f ≡ gs)
  fills-kept [] both = ((λ e. tt), (λ k. refl))
  fills-kept (g ∷ gs) both = let rest = fills-kept gs both.1 in (
    (λ e. (
      both.0.0 (ap (λ (x : Fill). x.ident) (list-head e)),
      rest.0 (list-tail e),
    )),
    (λ k j. record { hole = g.hole; ident = both.0.1 k.0 j } ∷ rest.1 k.1 j),
  )

  keeps-module : (u : OfUnit) (m : Text) → EachFill Both (out-Unit u).fills → Both (Module u m)
  keeps-module u m both = let all = fills-kept (out-Unit u).fills both in (
    (λ e. fills-EachHole (λ h. at_hole h f ≡ Hole h) u m (all.0 (sym (fills-filled u f)
        ∙ ap (λ (v : OfUnit). (out-Unit v).fills)
        (Module-unit (filled_unit u f) u m m (sym (filled-Module u m f) ∙ e))))),
    (λ k. filled-Module u m f ∙ ap (λ (v : OfUnit). Module v m) (unit-same (filled_unit u f) u (component-filled u f)
        (fills-filled u f ∙ all.1 (EachHole-fills (λ h. at_hole h f ≡ Hole h) u m k)))),
  )

  -- fills that leave an identity as it is leave each of its holes as it is
  pub kept-holes : (i : Ident) → filled i f ≡ i → Keeps i
  kept-holes i = (ident-induction Both keeps-hole keeps-module i).0

  -- fills that leave each hole of an identity as it is leave it as it is
  pub holes-kept : (i : Ident) → Keeps i → filled i f ≡ i
  holes-kept i = (ident-induction Both keeps-hole keeps-module i).1

-- The holes of what is filled are holes of fills.
module _ (f : List Fill) (Q : Text → Type 0) (each : (x : Fill) → Among x f → EachHole Q x.ident) where
  abbrev Held : Ident → Type 0
  Held i = EachHole (HasFill f) i → EachHole Q (filled i f)

  held-hole : (n : Text) → Held (Hole n)
  held-hole n k = by (found n f) refl (k n (texts_same n))
    where
      by : (o : Option Ident) → found n f ≡ o → IsSome o → EachHole Q (unwrap_or (found n f) (Hole n))
      by None e s = cc
      by (Some i) e s = let x = found-fill n f i e in
          subst (EachHole Q) (x.2 ∙ sym (ap (λ o. unwrap_or o (Hole n)) e)) (each x.0 x.1)

  held-fills : (gs : List Fill) → EachFill Held gs → EachFill (EachHole (HasFill f)) gs
      → EachFill (EachHole Q) (composed gs f)
  held-fills [] h k = tt
  held-fills (g ∷ gs) h k = (h.0 k.0, held-fills gs h.1 k.1)

  held-module : (u : OfUnit) (m : Text) → EachFill Held (out-Unit u).fills → Held (Module u m)
  held-module u m h k = subst (EachHole Q) (sym (filled-Module u m f)) (fills-EachHole Q (filled_unit u f) m
      (subst (EachFill (EachHole Q)) (sym (fills-filled u f)) (held-fills (out-Unit u).fills h
      (EachHole-fills (HasFill f) u m k))))

  -- what holds of each hole of the fills holds of each hole of what is filled
  pub holes-of-filled : (i : Ident) → EachHole (HasFill f) i → EachHole Q (filled i f)
  holes-of-filled i = ident-induction Held held-hole held-module i

-- a hole occurs where, and only where, it is one of the terms
mutual
  pub hole-term : (h : Text) (i : Ident) → has_hole h i ≡ true → Among (Hole h) (terms_of i)
  hole-term h (Hole n) e = inl (ap Hole (same_texts n h e))
  hole-term h (Module' s (more_of-Unit u end_of-Unit) m) e = inr (hole-below h u e)

  hole-below : (h : Text) (u : OfUnit) → unit_has_hole h u ≡ true → Among (Hole h) (terms_below u)
  hole-below h (Unit' c s r) e = hole-row h r e

  hole-row : (h : Text) {m : _} (r : Row_of-Fill m) → row_has_hole h r ≡ true → Among (Hole h) (terms_of_row r)
  hole-row h end_of-Fill e = cc
  hole-row h (more_of-Fill n i r) e = elim (or_cases (has_hole h i) (row_has_hole h r) e) [
    | inl x ↦ among-left (Hole h) (terms_of i) (terms_of_row r) (hole-term h i x)
    | inr x ↦ among-right (Hole h) (terms_of i) (terms_of_row r) (hole-row h r x)
  ]

mutual
  pub term-hole : (h : Text) (i : Ident) → Among (Hole h) (terms_of i) → has_hole h i ≡ true
  term-hole h (Hole n) (inl e) = subst (λ (k : Text). bytes_eq n k ≡ true) (Hole-name n h e) (texts_same n)
  term-hole h (Hole n) (inr a) = absurd a
  term-hole h (Module' s (more_of-Unit u end_of-Unit) m) (inl e) = absurd (Hole-not-Module h u m (sym e))
  term-hole h (Module' s (more_of-Unit u end_of-Unit) m) (inr a) = below-hole h u a

  below-hole : (h : Text) (u : OfUnit) → Among (Hole h) (terms_below u) → unit_has_hole h u ≡ true
  below-hole h (Unit' c s r) a = row-hole h r a

  row-hole : (h : Text) {m : _} (r : Row_of-Fill m) → Among (Hole h) (terms_of_row r) → row_has_hole h r ≡ true
  row-hole h end_of-Fill a = absurd a
  row-hole h (more_of-Fill n i r) a = elim (among-either (Hole h) (terms_of i) (terms_of_row r) a) [
    | inl x ↦ or_left (has_hole h i) (row_has_hole h r) (term-hole h i x)
    | inr x ↦ or_right (has_hole h i) (row_has_hole h r) (row-hole h r x)
  ]
