-- The test of the condition on summaries decides it.
use Rattle.std.proofs.Common.{◌≡◌, ◌⊎◌, inl, inr, Bool, true, false, ◌&&◌, List, [], ◌∷◌, ◌++◌, map, refl, sym, ap, ◌∙◌}
use Rattle.std.proofs.Common.{subst}
use Rattle.std.specs.Prelude.{Option, Some, None, IsSome, IsTrue, ◌↔◌, cond, unwrap_or}
use Rattle.std.specs.List.{flat_map}
use Rattle.std.specs.Str.{bytes_eq}
use Rattle.std.proofs.lemmas.Bool.{and_parts, and_from}
use Rattle.bp_base.specs.declared.ident.Ident.{Ident}
use Rattle.bp_base.specs.declared.ident.Ident.TheVariants.{Hole, Module}
use Rattle.bp_base.specs.declared.ident.Ident.TheViews.{roll-Unit, out-roll-Unit}
use Rattle.bp_base.specs.declared.ident.Unit.{Unit as OfUnit, out-Unit}
use Rattle.bp_base.specs.declared.ident.Fill.{Fill}
use Rattle.bp_base.specs.declared.linking.Provision.{Provision}
use Rattle.bp_base.specs.Holes.{EachHole, closed, fills_closed}
use Rattle.bp_base.specs.Lists.{Among}
use Rattle.bp_base.specs.Texts.{Text}
use Rattle.bp_base.proofs.TextLemmas.{same_texts, texts_same, other_texts}
use Rattle.bp_base.proofs.SetLemmas.{among-left, among-right, among-either}
use Rattle.bp_base.proofs.IdentLemmas.{EachFill, ident-induction}
use Rattle.bp_base.proofs.HoleLemmas.{EachHole-fills, fills-EachHole, closed-Module, unit_closed-out}
use Rattle.unit_identity.specs.Fill.{filled, filled_unit, composed, found}
use Rattle.unit_identity.proofs.FillLemmas.{filled-Module}
use Rattle.unit_identity.proofs.FilledLemmas.{HasFill}
use Rattle.hole_unify.specs.declared.equation.Equation.{Equation}
use Rattle.hole_unify.specs.Causes.{IsLawful, units_of, units_in}
use Rattle.hole_unify.proofs.UnifyingLemmas.{fills-filled}
use Rattle.mixin_link.specs.declared.summary.Summary.{Summary}
use Rattle.mixin_link.specs.Summaries.{AreLawful, own_ident, idents_of, closed_at, closing, all_held}
use Rattle.mixin_link.specs.Summaries.{summaries_held, itself, summary_equations}
use Rattle.mixin_link.proofs.HoleLemmas.{found-fill}

-- ---- holes that are filled

-- An identity has no hole after fills without holes where, and only where, each of its holes has a fill.
module _ (f : List Fill) (each : (x : Fill) → Among x f → closed x.ident ≡ true) where
  abbrev Closes : Ident → Type 0
  Closes i = (closed (filled i f) ≡ true → EachHole (HasFill f) i)
      × (EachHole (HasFill f) i → closed (filled i f) ≡ true)

  closes-hole : (n : Text) → Closes (Hole n)
  closes-hole n = by (found n f) refl
    where
      by : (o : Option Ident) → found n f ≡ o
          → (closed (unwrap_or o (Hole n)) ≡ true → EachHole (HasFill f) (Hole n))
          × (EachHole (HasFill f) (Hole n) → closed (unwrap_or o (Hole n)) ≡ true)
      by None e = (
        (λ k. absurd (no k)),
        (λ k. absurd (none (subst (λ (o : Option Ident). IsSome o) e (k n (texts_same n))))),
      )
        where
          no : false ≡ true → ⊥
          no k = cc

          none : IsSome {T = Ident} None → ⊥
          none k = cc
      by (Some i) e = let x = found-fill n f i e in (
        (λ k h q. subst (HasFill f) (same_texts n h q) (subst (λ (o : Option Ident). IsSome o) (sym e) refl)),
        (λ k. ap closed (sym x.2) ∙ each x.0 x.1),
      )

  closes-fills : (gs : List Fill) → EachFill Closes gs
      → (fills_closed (composed gs f) ≡ true → EachFill (EachHole (HasFill f)) gs)
      × (EachFill (EachHole (HasFill f)) gs → fills_closed (composed gs f) ≡ true)
  closes-fills [] both = ((λ k. tt), (λ k. refl))
  closes-fills (g ∷ gs) both = let rest = closes-fills gs both.1 in (
    (λ k. let p = and_parts (closed (filled g.ident f)) (fills_closed (composed gs f)) k in
        (both.0.0 p.0, rest.0 p.1)),
    (λ k. and_from (closed (filled g.ident f)) (fills_closed (composed gs f)) (both.0.1 k.0) (rest.1 k.1)),
  )

  closes-module : (u : OfUnit) (m : Text) → EachFill Closes (out-Unit u).fills → Closes (Module u m)
  closes-module u m both = let rest = closes-fills (out-Unit u).fills both in (
    (λ k. fills-EachHole (HasFill f) u m (rest.0 (sym is ∙ k))),
    (λ k. is ∙ rest.1 (EachHole-fills (HasFill f) u m k)),
  )
    where
      is : closed (filled (Module u m) f) ≡ fills_closed (composed (out-Unit u).fills f)
      is = ap closed (filled-Module u m f) ∙ closed-Module (filled_unit u f) m ∙ unit_closed-out (filled_unit u f)
          ∙ ap fills_closed (fills-filled u f)

  -- no hole is left where, and only where, each hole has a fill
  pub closes : (i : Ident) → Closes i
  closes i = ident-induction Closes closes-hole closes-module i

closed-at : (h : Text) → closed (closed_at h) ≡ true
closed-at h = closed-Module (roll-Unit (record { component = h; fills = [] })) h
    ∙ unit_closed-out (roll-Unit (record { component = h; fills = [] }))
    ∙ ap (λ o. fills_closed o.fills) (out-roll-Unit (record { component = h; fills = [] }))

each-closed : (hs : List Text) (x : Fill) → Among x (closing hs) → closed x.ident ≡ true
each-closed [] x a = absurd a
each-closed (h ∷ hs) x (inl e) = ap (λ (y : Fill). closed y.ident) (sym e) ∙ closed-at h
each-closed (h ∷ hs) x (inr a) = each-closed hs x a

closing-has : (hs : List Text) (n : Text) → Among n hs → HasFill (closing hs) n
closing-has [] n a = absurd a
closing-has (h ∷ hs) n a = by (bytes_eq h n) refl a (closing-has hs n)
  where
    by : (b : Bool) → bytes_eq h n ≡ b → (h ≡ n) ⊎ Among n hs → (Among n hs → IsSome (found n (closing hs)))
        → IsSome (cond b (Some (closed_at h)) (found n (closing hs)))
    by true e m k = refl
    by false e (inl p) k = absurd (other_texts h n e p)
    by false e (inr m) k = k m

has-closing : (hs : List Text) (n : Text) → HasFill (closing hs) n → Among n hs
has-closing [] n k = cc
has-closing (h ∷ hs) n k = by (bytes_eq h n) refl k (has-closing hs n)
  where
    by : (b : Bool) → bytes_eq h n ≡ b → IsSome (cond b (Some (closed_at h)) (found n (closing hs)))
        → (IsSome (found n (closing hs)) → Among n hs) → (h ≡ n) ⊎ Among n hs
    by true e m k = inl (same_texts h n e)
    by false e m k = inr (k m)

-- ---- provisions

all-held : (hs : List Text) (ps : List Provision)
    → (all_held hs ps ≡ true → (p : Provision) → Among p ps → EachHole (λ h. Among h hs) p.ident)
    × (((p : Provision) → Among p ps → EachHole (λ h. Among h hs) p.ident) → all_held hs ps ≡ true)
all-held hs [] = ((λ k p a. absurd a), (λ k. refl))
all-held hs (x ∷ ps) =
    let rest = all-held hs ps in
    let one = closes (closing hs) (each-closed hs) x.ident in (
      (λ k p a. let b = and_parts (closed (filled x.ident (closing hs))) (all_held hs ps) k in
          at p a (λ h q. has-closing hs h (one.0 b.0 h q)) (rest.0 b.1)),
      (λ k. and_from (closed (filled x.ident (closing hs))) (all_held hs ps)
          (one.1 (λ h q. closing-has hs h (k x (inl refl) h q))) (rest.1 (λ p a. k p (inr a)))),
    )
  where
    at : (p : Provision) → (x ≡ p) ⊎ Among p ps → EachHole (λ h. Among h hs) x.ident
        → ((q : Provision) → Among q ps → EachHole (λ h. Among h hs) q.ident) → EachHole (λ h. Among h hs) p.ident
    at p (inl e) k r = subst (λ (y : Provision). EachHole (λ h. Among h hs) y.ident) e k
    at p (inr a) k r = r p a

abbrev AreHeld : List Summary → Type 0
AreHeld ss = (s : Summary) → Among s ss → (p : Provision) → Among p s.provisions
    → EachHole (λ h. Among h s.holes) p.ident

summaries-held : (ss : List Summary) → (summaries_held ss ≡ true → AreHeld ss) × (AreHeld ss → summaries_held ss ≡ true)
summaries-held [] = ((λ k s a. absurd a), (λ k. refl))
summaries-held (x ∷ ss) =
    let rest = summaries-held ss in
    let one = all-held x.holes x.provisions in (
      (λ k s a. let b = and_parts (all_held x.holes x.provisions) (summaries_held ss) k in
          at s a (one.0 b.0) (rest.0 b.1)),
      (λ k. and_from (all_held x.holes x.provisions) (summaries_held ss) (one.1 (k x (inl refl)))
          (rest.1 (λ s a. k s (inr a)))),
    )
  where
    at : (s : Summary) → (x ≡ s) ⊎ Among s ss
        → ((p : Provision) → Among p x.provisions → EachHole (λ h. Among h x.holes) p.ident) → AreHeld ss
        → (p : Provision) → Among p s.provisions → EachHole (λ h. Among h s.holes) p.ident
    at s (inl e) k r = subst (λ (y : Summary). (p : Provision) → Among p y.provisions
        → EachHole (λ h. Among h y.holes) p.ident) e k
    at s (inr a) k r = r s a

-- ---- units

-- the equations of identities with themselves
shown-equations : (ss : List Summary) → flat_map summary_equations ss ≡ map itself (flat_map idents_of ss)
shown-equations [] = refl
shown-equations (s ∷ ss) = ap (λ (l : List Equation). itself (own_ident s) ∷ l)
    (go s.provisions (flat_map summary_equations ss) (flat_map idents_of ss) (shown-equations ss))
  where
    go : (ps : List Provision) (es : List Equation) (is : List Ident) → es ≡ map itself is
        → map (λ (p : Provision). itself p.ident) ps ++ es ≡ map itself (map (λ (p : Provision). p.ident) ps ++ is)
    go [] es is e = e
    go (p ∷ ps) es is e = ap (λ (l : List Equation). itself p.ident ∷ l) (go ps es is e)

units-in : (is : List Ident) (u : OfUnit) → Among u (units_in (map itself is)) → Among u (flat_map units_of is)
units-in [] u a = absurd a
units-in (i ∷ is) u a = elim (among-either u (units_of i) (units_of i ++ units_in (map itself is)) a) [
  | inl h ↦ among-left u (units_of i) (flat_map units_of is) h
  | inr r ↦ elim (among-either u (units_of i) (units_in (map itself is)) r) [
    | inl h ↦ among-left u (units_of i) (flat_map units_of is) h
    | inr h ↦ among-right u (units_of i) (flat_map units_of is) (units-in is u h)
  ]
]

in-units : (is : List Ident) (u : OfUnit) → Among u (flat_map units_of is) → Among u (units_in (map itself is))
in-units [] u a = absurd a
in-units (i ∷ is) u a = elim (among-either u (units_of i) (flat_map units_of is) a) [
  | inl h ↦ among-left u (units_of i) (units_of i ++ units_in (map itself is)) h
  | inr h ↦ among-right u (units_of i) (units_of i ++ units_in (map itself is))
      (among-right u (units_of i) (units_in (map itself is)) (in-units is u h))
]

lawful-shown : (ss : List Summary) → summaries_held ss ≡ true → IsLawful (map itself (flat_map idents_of ss))
    → AreLawful ss
lawful-shown ss h l = record {
  held = (summaries-held ss).0 h;
  alike = λ u v a b e. l.same_holes u v (in-units (flat_map idents_of ss) u a) (in-units (flat_map idents_of ss) v b) e;
  rising = λ u a. l.rising u (in-units (flat_map idents_of ss) u a);
}

shown-lawful : (ss : List Summary) → AreLawful ss → IsLawful (map itself (flat_map idents_of ss))
shown-lawful ss l = record {
  same_holes = λ u v a b e. l.alike u v (units-in (flat_map idents_of ss) u a) (units-in (flat_map idents_of ss) v b) e;
  rising = λ u a. l.rising u (units-in (flat_map idents_of ss) u a);
}

-- what the two parts of the test say
pub lawful-tested : (ss : List Summary) (es : List Equation) (held alike lawful : Bool) → held ≡ summaries_held ss
    → es ≡ flat_map summary_equations ss → IsTrue alike ↔ IsLawful es → lawful ≡ held && alike
    → IsTrue lawful ↔ AreLawful ss
lawful-tested ss es held alike lawful h e k l = (
  (λ t. let p = and_parts held alike (sym l ∙ t) in
      lawful-shown ss (sym h ∙ p.0) (subst IsLawful is (k.0 p.1))),
  (λ a. l ∙ and_from held alike (h ∙ (summaries-held ss).1 a.held) (k.1 (subst IsLawful (sym is) (shown-lawful ss a)))),
)
  where
    is : es ≡ map itself (flat_map idents_of ss)
    is = e ∙ shown-equations ss
