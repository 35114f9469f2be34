-- What follows from a unifier.
use Rattle.std.proofs.Common.{◌≡◌, ℕ, suc, ◌+◌, ◌<◌, ◌≤◌, Bool, true, false, cond, List, [], ◌∷◌, refl, ap, sym, ◌∙◌}
use Rattle.std.proofs.Common.{subst, inl, inr, arith}
use Rattle.std.specs.Prelude.{Some}
use Rattle.std.specs.Option.{option_map}
use Rattle.std.specs.Str.{bytes_eq}
use Rattle.std.proofs.lemmas.Option.{same_Some}
use Rattle.bp_base.specs.declared.ident.Ident.{Ident}
use Rattle.bp_base.specs.declared.ident.Ident.TheVariants.{Hole, Module, Module'}
use Rattle.bp_base.specs.declared.ident.Unit.{Unit as OfUnit, Unit', out-Unit}
use Rattle.bp_base.specs.declared.ident.Fill.{Fill}
use Rattle.bp_base.specs.declared.ident.Ident.TheBlock.{hidden-the_row-Unit-0, shown-the_row-Fill-1, end_of-Unit}
use Rattle.bp_base.specs.declared.ident.Ident.TheBlock.{more_of-Unit, Row_of-Fill, end_of-Fill, more_of-Fill}
use Rattle.bp_base.specs.declared.ident.Ident.TheViews.{out-roll-Unit}
use Rattle.unit_identity.specs.Fill.{filled, filled_unit, composed, found}
use Rattle.unit_identity.proofs.FillLemmas.{filled-Module, filled_unit-out}
use Rattle.hole_unify.specs.declared.equation.Equation.{Equation}
use Rattle.hole_unify.specs.declared.equation.Head.{Head}
use Rattle.bp_base.specs.Lists.{Among}
use Rattle.hole_unify.specs.Unifiers.{IsUnifier, HasUnifier}
use Rattle.hole_unify.specs.Classes.{Same, Stated, Itself, Turned, Joined, AtHole, HasHeads, Reaches, Next, Through}
use Rattle.hole_unify.specs.Classes.{head_of}
use mathlib.Core.Former.{list_count, this, none_left}
use denote.Hole.Carrier.{hidden, out, shown}

-- ---- the parts of an identity

unit_in : OfUnit → Ident → OfUnit
unit_in d (Hole n) = d
unit_in d (Module' s (more_of-Unit u end_of-Unit) m) = u

unit_in-Module : (d u : OfUnit) (m : List ℕ) → unit_in d (Module u m) ≡ u
unfolding unit_in hidden-the_row-Unit-0 hidden
unit_in-Module d u m = refl

name_in : Ident → List ℕ
name_in (Hole n) = n
name_in (Module' s r m) = m

name_in-Module : (u : OfUnit) (m : List ℕ) → name_in (Module u m) ≡ m
unfolding name_in
name_in-Module u m = refl

pub Module-unit : (u v : OfUnit) (m n : List ℕ) → Module u m ≡ Module v n → u ≡ v
Module-unit u v m n e = sym (unit_in-Module u u m) ∙ ap (unit_in u) e ∙ unit_in-Module u v n

pub Module-name : (u v : OfUnit) (m n : List ℕ) → Module u m ≡ Module v n → m ≡ n
Module-name u v m n e = sym (name_in-Module u m) ∙ ap name_in e ∙ name_in-Module v n

-- ---- a filled unit

pub component-filled : (u : OfUnit) (g : List Fill) → (out-Unit (filled_unit u g)).component ≡ (out-Unit u).component
component-filled u g = ap (λ v. (out-Unit v).component) (filled_unit-out u g) ∙ ap (λ o. o.component) (out-roll-Unit _)

pub fills-filled : (u : OfUnit) (g : List Fill) → (out-Unit (filled_unit u g)).fills ≡ composed (out-Unit u).fills g
fills-filled u g = ap (λ v. (out-Unit v).fills) (filled_unit-out u g) ∙ ap (λ o. o.fills) (out-roll-Unit _)

pub found-composed : (n : List ℕ) (fs g : List Fill)
    → found n (composed fs g) ≡ option_map (λ i. filled i g) (found n fs)
found-composed n [] g = refl
found-composed n (f ∷ fs) g = by (bytes_eq f.hole n) (found-composed n fs g)
  where
    by : (b : Bool) → found n (composed fs g) ≡ option_map (λ i. filled i g) (found n fs)
        → cond b (Some (filled f.ident g)) (found n (composed fs g)) ≡ option_map (λ i. filled i g)
        (cond b (Some f.ident) (found n fs))
    by true h = refl
    by false h = h

pub found-filled : (u : OfUnit) (g : List Fill) (n : List ℕ) (i : Ident) → found n (out-Unit u).fills ≡ Some i
    → found n (out-Unit (filled_unit u g)).fills ≡ Some (filled i g)
found-filled u g n i h = ap (found n) (fills-filled u g) ∙ found-composed n (out-Unit u).fills g
    ∙ ap (option_map (λ x. filled x g)) h

-- ---- a unifier makes each class one

stated : (es : List Equation) (g : List Fill) (e : Equation) → IsUnifier es g → Among e es
    → filled e.left g ≡ filled e.right g
stated [] g e u h = absurd h
stated (x ∷ es) g e u (inl is) = subst (λ y. filled y.left g ≡ filled y.right g) is u.0
stated (x ∷ es) g e u (inr h) = stated es g e u.1 h

pub Same-filled : (es : List Equation) (g : List Fill) → IsUnifier es g → (a b : Ident) → Same es a b
    → filled a g ≡ filled b g
Same-filled es g u a b (Stated e h) = stated es g e u h
Same-filled es g u a b (Itself x) = refl
Same-filled es g u a b (Turned x y s) = sym (Same-filled es g u x y s)
Same-filled es g u a b (Joined x y z s t) = Same-filled es g u x y s ∙ Same-filled es g u y z t
Same-filled es g u a b (AtHole v w m h i j c s p q) =
    let units : filled_unit v g ≡ filled_unit w g =
    Module-unit (filled_unit v g) (filled_unit w g) m m (sym (filled-Module v m g)
    ∙ Same-filled es g u (Module v m) (Module w m) s ∙ filled-Module w m g) in
    same_Some (filled i g) (filled j g) (sym (found-filled v g h i p) ∙ ap (λ x. found h (out-Unit x).fills) units
    ∙ found-filled w g h j q)

pub clash_has_no_unifier : (es : List Equation) (one other : Head) → HasHeads es one other → HasUnifier es → ⊥
clash_has_no_unifier es one other h u = by h.class
  where
    by : (v : OfUnit) × (w : OfUnit) × (m : List ℕ) × (n : List ℕ) × Same es (Module v m) (Module w n)
        × (head_of v m ≡ one) × (head_of w n ≡ other) → ⊥
    by (v, w, m, n, s, p, q) =
        let made : Module (filled_unit v u.0) m ≡ Module (filled_unit w u.0) n = sym (filled-Module v m u.0)
        ∙ Same-filled es u.0 u.1 (Module v m) (Module w n) s ∙ filled-Module w n u.0 in
        let units : filled_unit v u.0 ≡ filled_unit w u.0 =
        Module-unit (filled_unit v u.0) (filled_unit w u.0) m n made in
        let names : m ≡ n = Module-name (filled_unit v u.0) (filled_unit w u.0) m n made in
        let components : (out-Unit v).component ≡ (out-Unit w).component = sym (component-filled v u.0)
        ∙ ap (λ x. (out-Unit x).component) units ∙ component-filled w u.0 in
        h.differ (sym p ∙ (λ i. record { component = components i; «module» = names i }) ∙ q)

-- ---- a unifier leaves no cycle

abbrev mutual
  pub weight : Ident → ℕ
  weight (Hole n) = 0
  weight (Module' s (more_of-Unit u end_of-Unit) m) = suc (weight_unit u)

  weight_unit : OfUnit → ℕ
  weight_unit (Unit' c s r) = weight_row r

  weight_row : {m : _} → Row_of-Fill m → ℕ
  weight_row end_of-Fill = 0
  weight_row (more_of-Fill h i r) = weight i + weight_row r

abbrev pub weights : List Fill → ℕ
weights [] = 0
weights (f ∷ fs) = weight f.ident + weights fs

pub weight-Module : (u : OfUnit) (m : List ℕ) → weight (Module u m) ≡ suc (weight_unit u)
unfolding hidden-the_row-Unit-0 hidden
weight-Module u m = refl

weight_row-list : (c : List ℕ)
    (s : List (Unit {0})) (r : Row_of-Fill (list_count this s none_left))
    → weight_row r ≡ weights (out-Unit (Unit' c s r)).fills
unfolding out-Unit out shown-the_row-Fill-1 shown
weight_row-list c [] end_of-Fill = refl
weight_row-list c (x ∷ s) (more_of-Fill h i r) = ap (λ n. weight i + n) (weight_row-list c s r)

pub weight_unit-out : (u : OfUnit) → weight_unit u ≡ weights (out-Unit u).fills
weight_unit-out (Unit' c s r) = weight_row-list c s r

found-lighter : (n : List ℕ) (fs : List Fill) (i : Ident) → found n fs ≡ Some i → weight i ≤ weights fs
found-lighter n [] i h = cc
found-lighter n (f ∷ fs) i h = by (bytes_eq f.hole n) h (found-lighter n fs i)
  where
    by : (b : Bool) → cond b (Some f.ident) (found n fs) ≡ Some i → (found n fs ≡ Some i → weight i ≤ weights fs)
        → weight i ≤ weight f.ident + weights fs
    by true h k = let e = ap weight (same_Some f.ident i h) in omega arith
    by false h k = let l = k h in omega arith

pub Reaches-lighter : (es : List Equation) (g : List Fill) → IsUnifier es g → (a b : Ident) → Reaches es a b
    → weight (filled b g) < weight (filled a g)
Reaches-lighter es g u a b (Next x y v m h i s f t) =
    let top : weight (filled x g) ≡ suc (weight_unit (filled_unit v g)) =
    ap weight (Same-filled es g u x (Module v m) s ∙ filled-Module v m g) ∙ weight-Module (filled_unit v g) m in
    let below : weight (filled i g) ≤ weights (out-Unit (filled_unit v g)).fills =
    found-lighter h _ (filled i g) (found-filled v g h i f) in
    let sum : weight_unit (filled_unit v g) ≡ weights (out-Unit (filled_unit v g)).fills =
    weight_unit-out (filled_unit v g) in
    let same : weight (filled i g) ≡ weight (filled y g) = ap weight (Same-filled es g u i y t) in
    omega arith
Reaches-lighter es g u a b (Through x y z r s) = let p = Reaches-lighter es g u x y r in
    let q = Reaches-lighter es g u y z s in omega arith

pub cycle_has_no_unifier : (es : List Equation) (n : List ℕ) → Reaches es (Hole n) (Hole n) → HasUnifier es → ⊥
cycle_has_no_unifier es n r u = let h = Reaches-lighter es u.0 u.1 (Hole n) (Hole n) r in omega arith

-- a fill is lighter than its module
pub fill-lighter : (u : OfUnit) (m n : List ℕ) (i : Ident) → found n (out-Unit u).fills ≡ Some i
    → weight i < weight (Module u m)
fill-lighter u m n i e =
    let below = found-lighter n (out-Unit u).fills i e in
    let sum = weight_unit-out u in
    let top = weight-Module u m in
    omega (arith, below, sum, top)
