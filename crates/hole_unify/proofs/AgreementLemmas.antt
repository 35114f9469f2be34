-- There is one answer at most.
use Rattle.std.proofs.Common.{map, ◌⊎◌, inl, inr, ◌≡◌, ◌≢◌, ℕ, Bool, true, false, cond, List, [], ◌∷◌, refl, ap, sym}
use Rattle.std.proofs.Common.{◌∙◌, subst}
use Rattle.std.specs.Str.{bytes_eq}
use Rattle.std.specs.Prelude.{Option, Some, None, unwrap_or}
use Rattle.bp_base.specs.declared.ident.Ident.{Ident}
use Rattle.bp_base.specs.declared.ident.Ident.TheVariants.{Hole, Module, Module'}
use Rattle.bp_base.specs.declared.ident.Unit.{Unit as OfUnit, Unit', out-Unit}
use Rattle.bp_base.specs.declared.ident.Fill.{Fill}
use Rattle.bp_base.specs.declared.ident.Ident.TheBlock.{end_of-Unit, more_of-Unit, Row_of-Fill, end_of-Fill, more_of-Fill}
use Rattle.bp_base.specs.declared.ident.Ident.TheViews.{roll-Unit, out-roll-Unit}
use Rattle.bp_base.proofs.IdentLemmas.{fills_of, fills_of-list, Module-is, unit-is}
use Rattle.unit_identity.specs.Fill.{filled, filled_unit, filled_row, at_hole, found}
use Rattle.hole_unify.specs.declared.equation.Equation.{Equation}
use Rattle.bp_base.specs.Texts.{Text, Before, Rise, RiseAfter}
use Rattle.bp_base.proofs.TextLemmas.{same_texts, texts_same, Before-transitive, not_before_itself, Rise-after}
use Rattle.bp_base.proofs.TextLemmas.{one_name}
use Rattle.hole_unify.specs.Unifiers.{IsAnswer}
use Rattle.hole_unify.proofs.UnifyingLemmas.{Module-unit}
use Rattle.hole_unify.proofs.CauseLemmas.{list-head, list-tail}
use mathlib.Core.Former.{list_count, this, none_left}

-- what fills to a hole is a hole
pub hole-filled : (i : Ident) (f : List Fill) (m : List ℕ) → filled i f ≡ Hole m → (n : List ℕ) × (i ≡ Hole n)
hole-filled (Hole n) f m e = (n, refl)
hole-filled (Module' s (more_of-Unit u end_of-Unit) k) f m e = cc

module _ (f g : List Fill) (keeps : (m : List ℕ) → at_hole m f ≡ Hole m → at_hole m g ≡ Hole m) where
  -- the fills of a filled unit
  fills-of-filled : (c : List ℕ)
      (s : List (Unit {0})) (r : Row_of-Fill (list_count this s none_left))
      (h : List Fill) → (out-Unit (filled_unit (Unit' c s r) h)).fills ≡ filled_row r h
  fills-of-filled c s r h = ap (λ o. o.fills) (out-roll-Unit (record { component = c; fills = filled_row r h }))

  -- what `f` leaves as it is, `g` leaves too
  mutual
    kept : (i : Ident) → filled i f ≡ i → filled i g ≡ i
    kept (Hole m) e = keeps m e
    kept (Module' s (more_of-Unit u end_of-Unit) m) e =
        ap (λ v. Module v m) (kept_unit u (Module-unit (filled_unit u f) u m m (e ∙ Module-is s u m)))
        ∙ sym (Module-is s u m)

    kept_unit : (u : OfUnit) → filled_unit u f ≡ u → filled_unit u g ≡ u
    kept_unit (Unit' c s r) e =
        let fills : filled_row r f ≡ fills_of r = sym (fills-of-filled c s r f) ∙ ap (λ v. (out-Unit v).fills) e
        ∙ sym (fills_of-list c s r) in
        ap (λ l. roll-Unit (record { component = c; fills = l })) (kept_row r fills) ∙ unit-is c s r

    kept_row : {m : _} (r : Row_of-Fill m) → filled_row r f ≡ fills_of r → filled_row r g ≡ fills_of r
    kept_row end_of-Fill e = refl
    kept_row (more_of-Fill h i r) e =
        let first = ap (λ (x : Fill). x.ident) (list-head e) in
        let rest = list-tail e in
        λ k. record { hole = h; ident = kept i first k } ∷ kept_row r rest k

-- a hole that one answer keeps, the other keeps
keeps : (es : List Equation) (f g : List Fill) → IsAnswer es f → IsAnswer es g → (m : List ℕ) → at_hole m f ≡ Hole m
    → at_hole m g ≡ Hole m
keeps es f g a b m e =
    let back : filled (at_hole m g) f ≡ Hole m = b.general f a.unifies m ∙ e in
    let n = hole-filled (at_hole m g) f m back in
    let up : at_hole n.0 f ≡ Hole m = ap (λ i. filled i f) (sym n.1) ∙ back in
    let same : n.0 ≡ m = one_name n.0 m (a.least n.0 m up) (b.least m n.0 n.1) in
    n.1 ∙ ap Hole same

-- two answers put the same at each hole
answers_agree : (es : List Equation) (f g : List Fill) → IsAnswer es f → IsAnswer es g → (n : Text)
    → at_hole n f ≡ at_hole n g
answers_agree es f g a b n = sym (kept f g (keeps es f g a b) (at_hole n f) (a.general f a.unifies n))
    ∙ a.general g b.unifies n

-- ---- rising fills are determined by what they put at each hole

-- what stands after a name is not found for it, nor for what stands before it
unfound : (n h : Text) (f : List Fill) → RiseAfter h (map (λ x. x.hole) f) → (n ≡ h) ⊎ Before n h → found n f ≡ None
unfound n h [] r o = refl
unfound n h (x ∷ f) r o = by (bytes_eq x.hole n) refl (λ p. unfound n x.hole f r.1 (inr p))
  where
    after : Before n x.hole
    after = elim o as (λ _. Before n x.hole) [
      | inl e ↦ subst (λ k. Before k x.hole) (sym e) r.0
      | inr p ↦
          Before-transitive n h x.hole p r.0
    ]

    by : (b : Bool) → bytes_eq x.hole n ≡ b → (Before n x.hole → found n f ≡ None)
        → cond b (Some x.ident) (found n f) ≡ None
    by true e k = absurd (not_before_itself n (subst (λ k. Before n k) (same_texts x.hole n e) after))
    by false e k = k after

-- equal at each hole, and no hole is put at itself
record Agree (f g : List Fill) : Type 0 where
  all : (n : Text) → at_hole n f ≡ at_hole n g
  first : (n : Text) → found n f ≢ Some (Hole n)
  second : (n : Text) → found n g ≢ Some (Hole n)

found-head : (x : Fill) (f : List Fill) → found x.hole (x ∷ f) ≡ Some x.ident
found-head x f = ap (λ b. cond b (Some x.ident) (found x.hole f)) (texts_same x.hole)

Some-not-None : {A : Type 0} (a : A) → Some a ≡ None → ⊥
Some-not-None a e = cc

-- found in both alike
found-alike : (f g : List Fill) → Agree f g → (n : Text) → found n f ≡ found n g
found-alike f g a n = by (found n f) (found n g) refl refl (a.all n)
  where
    by : (o p : Option Ident) → found n f ≡ o → found n g ≡ p
        → unwrap_or (found n f) (Hole n) ≡ unwrap_or (found n g) (Hole n) → found n f ≡ found n g
    by None None d e h = d ∙ sym e
    by None (Some j) d e h = let k : j ≡ Hole n = ap (λ o. unwrap_or o (Hole n)) (sym e) ∙ sym h
        ∙ ap (λ o. unwrap_or o (Hole n)) d in absurd (a.second n (e ∙ ap Some k))
    by (Some i) None d e h = let k : i ≡ Hole n = ap (λ o. unwrap_or o (Hole n)) (sym d) ∙ h
        ∙ ap (λ o. unwrap_or o (Hole n)) e in absurd (a.first n (d ∙ ap Some k))
    by (Some i) (Some j) d e h = let k : i ≡ j = ap (λ o. unwrap_or o (Hole n)) (sym d) ∙ h
        ∙ ap (λ o. unwrap_or o (Hole n)) e in d ∙ ap Some k ∙ sym e

-- rising fills, alike at each hole, are one list
one_list : (f g : List Fill) → Rise (map (λ x. x.hole) f) → Rise (map (λ x. x.hole) g)
    → ((n : Text) → found n f ≡ found n g) → f ≡ g
one_list [] [] r s a = refl
one_list [] (y ∷ g) r s a = absurd (Some-not-None y.ident (sym (found-head y g) ∙ sym (a y.hole)))
one_list (x ∷ f) [] r s a = absurd (Some-not-None x.ident (sym (found-head x f) ∙ a x.hole))
one_list (x ∷ f) (y ∷ g) r s a = heads (one_list f g (Rise-after x.hole _ r) (Rise-after y.hole _ s) below)
  where
    -- the first of one list is not before the first of the other
    not_before : (v w : Fill) (k l : List Fill) → RiseAfter w.hole (map (λ z. z.hole) l)
        → found v.hole (v ∷ k) ≡ found v.hole (w ∷ l) → Before v.hole w.hole → ⊥
    not_before v w k l u e b = Some-not-None v.ident (sym (found-head v k) ∙ e
        ∙ unfound v.hole v.hole (w ∷ l) (b, u) (inl refl))

    holes : x.hole ≡ y.hole
    holes = one_name x.hole y.hole (not_before x y f g s (a x.hole)) (not_before y x g f r (sym (a y.hole)))

    idents : x.ident ≡ y.ident
    idents = let e : Some x.ident ≡ Some y.ident = sym (found-head x f) ∙ a x.hole ∙ ap (λ h. found h (y ∷ g)) holes
        ∙ found-head y g in cc

    below_by : (n : Text) (b : Bool) → bytes_eq x.hole n ≡ b → found n f ≡ found n g
    below_by n true e =
        let first : found n f ≡ None = unfound n x.hole f r (inl (sym (same_texts x.hole n e))) in
        let second : found n g ≡ None = unfound n y.hole g s (inl (sym (same_texts x.hole n e) ∙ holes)) in
        first ∙ sym second
    below_by n false e =
        let d : bytes_eq y.hole n ≡ false = ap (λ h. bytes_eq h n) (sym holes) ∙ e in
        ap (λ b. cond b (Some x.ident) (found n f)) (sym e) ∙ a n ∙ ap (λ b. cond b (Some y.ident) (found n g)) d

    below : (n : Text) → found n f ≡ found n g
    below n = below_by n (bytes_eq x.hole n) refl

    heads : f ≡ g → x ∷ f ≡ y ∷ g
    heads rest = λ i. record { hole = holes i; ident = idents i } ∷ rest i

pub answers_are_one : (es : List Equation) (f g : List Fill) → IsAnswer es f → IsAnswer es g → f ≡ g
answers_are_one es f g a b = one_list f g a.rise b.rise
    (found-alike f g (record { all = answers_agree es f g a b; first = a.moves; second = b.moves }))
