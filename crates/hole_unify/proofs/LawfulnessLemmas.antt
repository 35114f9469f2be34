-- The test of the condition on units decides it.
use Rattle.std.proofs.Common.{◌≡◌, ℕ, ◌+◌, ◌<◌, Bool, true, false, ◌||◌, not, List, [], ◌∷◌, ◌++◌, length, get_or, drop}
use Rattle.std.proofs.Common.{map, inl, inr, refl, ap, sym, ◌∙◌, subst, append_assoc}
use Rattle.std.specs.Prelude.{IsTrue, ◌↔◌}
use Rattle.std.specs.Str.{bytes_eq}
use Rattle.std.proofs.lemmas.Bool.{and_parts, and_from}
use Rattle.hole_unify.proofs.StepLemmas.{front_of}
use Rattle.bp_base.specs.declared.ident.Ident.{Ident}
use Rattle.bp_base.specs.declared.ident.Ident.TheVariants.{Module}
use Rattle.bp_base.specs.declared.ident.Unit.{Unit as OfUnit, Unit', out-Unit}
use Rattle.bp_base.specs.declared.ident.Fill.{Fill}
use Rattle.bp_base.specs.declared.ident.Ident.TheBlock.{hidden-the_row-Unit-0, shown-the_row-Fill-1, Row_of-Fill}
use Rattle.bp_base.specs.declared.ident.Ident.TheBlock.{end_of-Fill, more_of-Fill}
use Rattle.bp_base.specs.Lists.{Among}
use Rattle.bp_base.specs.Texts.{Text, Rise, RiseAfter}
use Rattle.bp_base.proofs.TextLemmas.{same_texts, texts_same, tested_before}
use Rattle.hole_unify.specs.declared.equation.Equation.{Equation}
use Rattle.hole_unify.specs.Causes.{IsLawful, units_of, units_below, units_of_row, units_in, holes_of}
use Rattle.hole_unify.proofs.FillingLemmas.{less-before}
use Rattle.hole_unify.specs.Lawful.{units_in_fills, same_holes, rise_after, rises, agree, agrees_with, all_agree}
use mathlib.Core.Former.{list_count, this, none_left}
use denote.Hole.Carrier.{hidden, out, shown}

-- ---- listing

pub units_of-Module : (u : OfUnit) (m : Text) → units_of (Module u m) ≡ u ∷ units_below u
unfolding hidden-the_row-Unit-0 hidden
units_of-Module u m = refl

units-row : (c : Text)
    (s : List (Unit {0})) (r : Row_of-Fill (list_count this s none_left))
    → units_of_row r ≡ units_in_fills (out-Unit (Unit' c s r)).fills
unfolding out-Unit out shown-the_row-Fill-1 shown
units-row c [] end_of-Fill = refl
units-row c (x ∷ s) (more_of-Fill h i r) = ap (λ l. units_of i ++ l) (units-row c s r)

pub units_below-out : (u : OfUnit) → units_below u ≡ units_in_fills (out-Unit u).fills
units_below-out (Unit' c s r) = units-row c s r

pub ruleset unit_equations = (units_of-Module, units_below-out)

pub fills-step : (fills : List Fill) (i : ℕ) (x : Fill) (now new t : List OfUnit) → i < length fills
    → x ≡ get_or fills i x
    → new ≡ now ++ units_of x.ident → now ++ units_in_fills (drop i fills) ≡ t
    → new ++ units_in_fills (drop (i + 1) fills) ≡ t
fills-step fills i x now new t lt is made so =
    ap (λ l. l ++ units_in_fills (drop (i + 1) fills)) made
    ∙ append_assoc now (units_of x.ident) (units_in_fills (drop (i + 1) fills))
    ∙ ap (λ l. now ++ units_in_fills l) (sym (front_of fills i x lt is)) ∙ so

pub equations-step : (es : List Equation) (i : ℕ) (x : Equation) (now mid new t : List OfUnit) → i < length es
    → x ≡ get_or es i x
    → mid ≡ now ++ units_of x.left → new ≡ mid ++ units_of x.right → now ++ units_in (drop i es) ≡ t
    → new ++ units_in (drop (i + 1) es) ≡ t
equations-step es i x now mid new t lt is left right so =
    ap (λ l. l ++ units_in (drop (i + 1) es)) right
    ∙ append_assoc mid (units_of x.right) (units_in (drop (i + 1) es))
    ∙ ap (λ l. l ++ (units_of x.right ++ units_in (drop (i + 1) es))) left
    ∙ append_assoc now (units_of x.left) (units_of x.right ++ units_in (drop (i + 1) es))
    ∙ ap (λ l. now ++ units_in l) (sym (front_of es i x lt is)) ∙ so

pub ident-step : (a : Ident) (u copy : OfUnit) (m : Text) (fs : List Fill) (now pushed new : List OfUnit)
    → a ≡ Module u m → copy ≡ u
    → pushed ≡ now ++ copy ∷ [] → fs ≡ (out-Unit u).fills → new ≡ pushed ++ units_in_fills fs → new ≡ now ++ units_of a
ident-step a u copy m fs now pushed new is same pushes fills made =
    made ∙ (λ w. pushes w ++ units_in_fills (fills w))
    ∙ append_assoc now (copy ∷ []) (units_in_fills (out-Unit u).fills)
    ∙ (λ w. now ++ (same w ∷ sym (units_below-out u) w))
    ∙ ap (λ l. now ++ l) (sym (units_of-Module u m)) ∙ ap (λ i. now ++ units_of i) (sym is)

-- ---- the test

same-holes : (us vs : List Fill) → same_holes us vs ≡ true → map (λ x. x.hole) us ≡ map (λ x. x.hole) vs
same-holes [] [] e = refl
same-holes [] (y ∷ ys) e = cc
same-holes (x ∷ xs) [] e = cc
same-holes (x ∷ xs) (y ∷ ys) e = let p = and_parts _ _ e in let h = same_texts x.hole y.hole p.0 in
    let r = same-holes xs ys p.1 in λ w. h w ∷ r w

rises-after : (h : Text) (fs : List Fill) → rise_after h fs ≡ true → RiseAfter h (map (λ x. x.hole) fs)
rises-after h [] e = tt
rises-after h (x ∷ xs) e = let p = and_parts _ _ e in (tested_before h x.hole p.0, rises-after x.hole xs p.1)

rises-all : (fs : List Fill) → rises fs ≡ true → Rise (map (λ x. x.hole) fs)
rises-all [] e = tt
rises-all (x ∷ xs) e = rises-after x.hole xs e

units-agree : (u v : OfUnit) → agree u v ≡ true → (out-Unit u).component ≡ (out-Unit v).component
    → holes_of u ≡ holes_of v
units-agree u v e c =
    let same : bytes_eq (out-Unit u).component (out-Unit v).component ≡ true =
    ap (λ z. bytes_eq z (out-Unit v).component) c ∙ texts_same (out-Unit v).component in
    same-holes (out-Unit u).fills (out-Unit v).fills
    (ap (λ b. not b || same_holes (out-Unit u).fills (out-Unit v).fills) (sym same) ∙ e)

agree-one : (u : OfUnit) (rest : List OfUnit) → agrees_with u rest ≡ true → (v : OfUnit) → Among v rest
    → agree u v ≡ true
agree-one u [] e v h = absurd h
agree-one u (y ∷ rest) e v (inl is) = subst (λ z. agree u z ≡ true) is (and_parts _ _ e).0
agree-one u (y ∷ rest) e v (inr h) = agree-one u rest (and_parts _ _ e).1 v h

agree-all : (units rest : List OfUnit) → all_agree units rest ≡ true → (u : OfUnit) → Among u rest
    → (rises (out-Unit u).fills ≡ true) × (agrees_with u units ≡ true)
agree-all units [] e u h = absurd h
agree-all units (y ∷ rest) e u (inl is) = let p = and_parts _ _ (and_parts _ _ e).0 in
    subst (λ z. (rises (out-Unit z).fills ≡ true) × (agrees_with z units ≡ true)) is (p.0, p.1)
agree-all units (y ∷ rest) e u (inr h) = agree-all units rest (and_parts _ _ e).1 u h

lawful-met : (es : List Equation) → all_agree (units_in es) (units_in es) ≡ true → IsLawful es
lawful-met es e = record {
  same_holes = λ u v h g c. units-agree u v (agree-one u (units_in es)
      (agree-all (units_in es) (units_in es) e u h).1 v g) c;
  rising = λ u h. rises-all (out-Unit u).fills (agree-all (units_in es) (units_in es) e u h).0;
}

-- ---- the other way round

holes-same : (us vs : List Fill) → map (λ x. x.hole) us ≡ map (λ x. x.hole) vs → same_holes us vs ≡ true
holes-same [] [] e = refl
holes-same [] (y ∷ ys) e = let x : List.[] ≡ y.hole ∷ map (λ z. z.hole) ys = e in cc
holes-same (x ∷ xs) [] e = let y : x.hole ∷ map (λ z. z.hole) xs ≡ List.[] = e in cc
holes-same (x ∷ xs) (y ∷ ys) e = and_from _ _ (subst (λ h. bytes_eq x.hole h ≡ true) (first e) (texts_same x.hole))
    (holes-same xs ys (rest e))
  where
    first : {A : Type 0} {a b : A} {l k : List A} → a ∷ l ≡ b ∷ k → a ≡ b
    first e = cc

    rest : {A : Type 0} {a b : A} {l k : List A} → a ∷ l ≡ b ∷ k → l ≡ k
    rest e = cc

after-rises : (h : Text) (fs : List Fill) → RiseAfter h (map (λ x. x.hole) fs) → rise_after h fs ≡ true
after-rises h [] r = refl
after-rises h (x ∷ xs) r = and_from _ _ (less-before h x.hole r.0) (after-rises x.hole xs r.1)

all-rises : (fs : List Fill) → Rise (map (λ x. x.hole) fs) → rises fs ≡ true
all-rises [] r = refl
all-rises (x ∷ xs) r = after-rises x.hole xs r

agree-units : (u v : OfUnit) → ((out-Unit u).component ≡ (out-Unit v).component → holes_of u ≡ holes_of v)
    → agree u v ≡ true
agree-units u v h = by (bytes_eq (out-Unit u).component (out-Unit v).component) refl
  where
    by : (b : Bool) → bytes_eq (out-Unit u).component (out-Unit v).component ≡ b
        → (not b || same_holes (out-Unit u).fills (out-Unit v).fills) ≡ true
    by true e = holes-same (out-Unit u).fills (out-Unit v).fills
        (h (same_texts (out-Unit u).component (out-Unit v).component e))
    by false e = refl

one-agrees : (u : OfUnit) (rest : List OfUnit) → ((v : OfUnit) → Among v rest → agree u v ≡ true)
    → agrees_with u rest ≡ true
one-agrees u [] h = refl
one-agrees u (y ∷ rest) h = and_from _ _ (h y (inl refl)) (one-agrees u rest (λ v a. h v (inr a)))

all-agrees : (units rest : List OfUnit) → ((u : OfUnit) → Among u rest
    → (rises (out-Unit u).fills ≡ true) × (agrees_with u units ≡ true)) → all_agree units rest ≡ true
all-agrees units [] h = refl
all-agrees units (y ∷ rest) h = and_from _ _ (and_from _ _ (h y (inl refl)).0 (h y (inl refl)).1)
    (all-agrees units rest (λ u a. h u (inr a)))

lawful-tested : (es : List Equation) → IsLawful es → all_agree (units_in es) (units_in es) ≡ true
lawful-tested es l =
    all-agrees (units_in es) (units_in es) (λ u a. (
      all-rises (out-Unit u).fills (l.rising u a),
      one-agrees u (units_in es) (λ v b. agree-units u v (l.same_holes u v a b)),
    ))

-- what is tested is the condition
pub lawful-found : (es given : List Equation) (units shown : List OfUnit) (r : Bool) → given ≡ es
    → units ≡ units_in given → shown ≡ units → r ≡ all_agree shown shown → IsTrue r ↔ IsLawful es
lawful-found es given units shown r is made same tested =
    let all : shown ≡ units_in es = same ∙ made ∙ ap units_in is in
    let test : r ≡ all_agree (units_in es) (units_in es) = tested ∙ (λ w. all_agree (all w) (all w)) in
    (λ t. lawful-met es (sym test ∙ t), λ l. test ∙ lawful-tested es l)
