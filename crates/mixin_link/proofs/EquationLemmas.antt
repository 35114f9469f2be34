-- Linkings are unifiers.
use Rattle.std.proofs.Common.{◌≡◌, ◌⊎◌, inl, inr, true, false, Bool, List, [], ◌∷◌, map, refl, sym, ap, ◌∙◌, subst}
use Rattle.std.specs.Prelude.{Some, IsSome, unwrap_or, cond}
use Rattle.std.specs.List.{filter}
use Rattle.std.specs.Str.{bytes_eq}
use Rattle.bp_base.specs.declared.ident.Ident.{Ident}
use Rattle.bp_base.specs.declared.ident.Ident.TheVariants.{Hole}
use Rattle.bp_base.specs.declared.ident.Fill.{Fill}
use Rattle.bp_base.specs.declared.linking.Rename.{Rename}
use Rattle.bp_base.specs.declared.linking.Provision.{Provision}
use Rattle.bp_base.specs.Holes.{EachHole}
use Rattle.bp_base.specs.Lists.{Among}
use Rattle.bp_base.specs.Texts.{Text}
use Rattle.bp_base.proofs.TextLemmas.{same_texts, texts_same, other_texts}
use Rattle.bp_base.proofs.SetLemmas.{among-left, among-right, among-either, among-map, among-image}
use Rattle.unit_identity.specs.Fill.{filled, composed, found, at_hole}
use Rattle.unit_identity.proofs.FillLemmas.{filled-filled}
use Rattle.unit_identity.proofs.FilledLemmas.{holes-filled, HasFill}
use Rattle.hole_unify.specs.declared.equation.Equation.{Equation}
use Rattle.hole_unify.specs.Unifiers.{IsUnifier}
use Rattle.mixin_names.specs.Names.{provisions_of}
use Rattle.mixin_link.specs.declared.open.OpenInclude.{OpenInclude}
use Rattle.mixin_link.specs.Linkings.{fills_under, IsLinking}
use Rattle.mixin_link.specs.Equations.{equation, equations_at, equations_of, fills_for, AreOpen}
use Rattle.mixin_link.specs.Laws.{LinkingsAreUnifiers}

-- ---- what stands in a filtered list

-- what passes the test is kept
pub among-filter : {A : Type 0} (f : A → Bool) (a : A) (xs : List A) → Among a xs → f a ≡ true → Among a (filter f xs)
among-filter f a [] h e = absurd h
among-filter {A} f a (x ∷ xs) h e = by (f x) refl h (λ k. among-filter f a xs k e)
  where
    by : (b : Bool) → f x ≡ b → (x ≡ a) ⊎ Among a xs → (Among a xs → Among a (filter f xs))
        → Among a (cond b (x ∷ filter f xs) (filter f xs))
    by true d (inl p) k = inl p
    by true d (inr m) k = inr (k m)
    by false d (inl p) k = let t : f x ≡ true = ap f p ∙ e in cc
    by false d (inr m) k = k m

-- what is kept was there, and passes the test
pub filter-among : {A : Type 0} (f : A → Bool) (a : A) (xs : List A) → Among a (filter f xs) → Among a xs × (f a ≡ true)
filter-among f a [] h = absurd h
filter-among {A} f a (x ∷ xs) h = by (f x) refl h (filter-among f a xs)
  where
    by : (b : Bool) → f x ≡ b → Among a (cond b (x ∷ filter f xs) (filter f xs))
        → (Among a (filter f xs) → Among a xs × (f a ≡ true)) → Among a (x ∷ xs) × (f a ≡ true)
    by true d (inl p) k = (inl p, ap f (sym p) ∙ d)
    by true d (inr m) k = let r = k m in (inr r.0, r.1)
    by false d m k = let r = k m in (inr r.0, r.1)

-- ---- fills of includes

found-under : (s : Text → Ident) (rs : List Rename) (h : Text) → Among h (map (λ r. r.from) rs)
    → IsSome (found h (fills_under s rs))
found-under s [] h a = absurd a
found-under s (r ∷ rs) h a = by (bytes_eq r.from h) refl a (found-under s rs h)
  where
    by : (b : Bool) → bytes_eq r.from h ≡ b → (r.from ≡ h) ⊎ Among h (map (λ x. x.from) rs)
        → (Among h (map (λ x. x.from) rs) → IsSome (found h (fills_under s rs)))
        → IsSome (cond b (Some (s r.to)) (found h (fills_under s rs)))
    by true e m k = refl
    by false e (inl p) k = absurd (other_texts r.from h e p)
    by false e (inr m) k = k m

-- each hole of a provision has a fill
pub has-fills : (s : Text → Ident) (rs : List Rename) (i : Ident) → EachHole (λ h. Among h (map (λ r. r.from) rs)) i
    → EachHole (HasFill (fills_under s rs)) i
has-fills s rs i k = λ h e. found-under s rs h (k h e)

composed-under : (rs : List Rename) (f : List Fill)
    → composed (fills_under Hole rs) f ≡ fills_under (λ n. at_hole n f) rs
composed-under [] f = refl
composed-under (r ∷ rs) f = ap (λ (l : List Fill). record { hole = r.from; ident = at_hole r.to f } ∷ l)
    (composed-under rs f)

-- an open provision filled is the provision under the fills
pub filled-under : (i : Ident) (rs : List Rename) (f : List Fill)
    → EachHole (λ h. Among h (map (λ r. r.from) rs)) i
    → filled (filled i (fills_under Hole rs)) f ≡ filled i (fills_under (λ n. at_hole n f) rs)
filled-under i rs f k =
    filled-filled i (fills_under Hole rs) f (holes-filled (fills_under Hole rs) i (has-fills Hole rs i k))
    ∙ ap (filled i) (composed-under rs f)

-- assignments that are equal at linkage names give an include the same fills
pub same-under : (s t : Text → Ident) (rs : List Rename) → ((r : Rename) → Among r rs → s r.to ≡ t r.to)
    → fills_under s rs ≡ fills_under t rs
same-under s t [] k = refl
same-under s t (r ∷ rs) k = λ j.
    record { hole = r.from; ident = k r (inl refl) j } ∷ same-under s t rs (λ x a. k x (inr a)) j

-- the fills of an assignment put at each of their names what it does
pub at-for : (s : Text → Ident) (ns : List Text) (n : Text) → Among n ns → at_hole n (fills_for s ns) ≡ s n
at-for s [] n a = absurd a
at-for s (m ∷ ns) n a = by (bytes_eq m n) refl a (at-for s ns n)
  where
    by : (b : Bool) → bytes_eq m n ≡ b → (m ≡ n) ⊎ Among n ns
        → (Among n ns → unwrap_or (found n (fills_for s ns)) (Hole n) ≡ s n)
        → unwrap_or (cond b (Some (s m)) (found n (fills_for s ns))) (Hole n) ≡ s n
    by true e h k = ap s (same_texts m n e)
    by false e (inl p) k = absurd (other_texts m n e p)
    by false e (inr h) k = k h

-- ---- where equations come from

-- the provision that an equation is of
pub record From (is : List OpenInclude) (name : Text) (e : Equation) : Type 0 where
  pub source : OpenInclude
  pub listed : Among source is
  pub provision : Provision
  pub provided : Among provision source.provides
  pub named : provision.name ≡ name
  pub states : equation source.needs provision ≡ e

at-name : (name : Text) (is : List OpenInclude) (i : OpenInclude) (p : Provision) → Among i is → Among p i.provides
    → p.name ≡ name → Among (equation i.needs p) (equations_at name is)
at-name name [] i p a b q = absurd a
at-name name (x ∷ is) i p (inl e) b q =
    among-left (equation i.needs p) (map (equation x.needs) (provisions_of x.provides name)) (equations_at name is)
    (subst (λ (y : OpenInclude). Among (equation i.needs p) (map (equation y.needs) (provisions_of y.provides name)))
    (sym e) (among-map (equation i.needs) p (provisions_of i.provides name)
    (among-filter (λ (x : Provision). bytes_eq x.name name) p i.provides b
    (subst (λ (n : Text). bytes_eq p.name n ≡ true) q (texts_same p.name)))))
at-name name (x ∷ is) i p (inr a) b q =
    among-right (equation i.needs p) (map (equation x.needs) (provisions_of x.provides name)) (equations_at name is)
    (at-name name is i p a b q)

from-name : (name : Text) (is : List OpenInclude) (e : Equation) → Among e (equations_at name is) → From is name e
from-name name [] e a = absurd a
from-name name (x ∷ is) e a =
    elim (among-either e (map (equation x.needs) (provisions_of x.provides name)) (equations_at name is) a) [
      | inl h ↦
          let i = among-image (equation x.needs) e (provisions_of x.provides name) h in
          let k = filter-among (λ (y : Provision). bytes_eq y.name name) i.0 x.provides i.1 in
          record {
            source = x;
            listed = inl refl;
            provision = i.0;
            provided = k.0;
            named = same_texts i.0.name name k.1;
            states = i.2;
          }
      | inr h ↦
          let r = from-name name is e h in
          record {
            source = r.source;
            listed = inr r.listed;
            provision = r.provision;
            provided = r.provided;
            named = r.named;
            states = r.states;
          }
    ]

-- each provision at a required name has its equation
pub among-equations : (ns : List Text) (is : List OpenInclude) (i : OpenInclude) (p : Provision) → Among p.name ns
    → Among i is → Among p i.provides → Among (equation i.needs p) (equations_of ns is)
among-equations [] is i p r a b = absurd r
among-equations (n ∷ ns) is i p (inl e) a b = among-left (equation i.needs p) (equations_at n is) (equations_of ns is)
    (at-name n is i p a b (sym e))
among-equations (n ∷ ns) is i p (inr r) a b = among-right (equation i.needs p) (equations_at n is) (equations_of ns is)
    (among-equations ns is i p r a b)

-- each equation is of a provision at a required name
pub equation-from : (ns : List Text) (is : List OpenInclude) (e : Equation) → Among e (equations_of ns is)
    → (n : Text) × Among n ns × From is n e
equation-from [] is e a = absurd a
equation-from (n ∷ ns) is e a = elim (among-either e (equations_at n is) (equations_of ns is) a) [
  | inl h ↦ (n, inl refl, from-name n is e h)
  | inr h ↦ let r = equation-from ns is e h in (r.0, inr r.1, r.2)
]

-- ---- linkings and unifiers

abbrev Holds : List Fill → Equation → Type 0
Holds f e = filled e.left f ≡ filled e.right f

stated : (es : List Equation) (f : List Fill) → IsUnifier es f → (e : Equation) → Among e es → Holds f e
stated [] f u e a = absurd a
stated (x ∷ es) f u e (inl p) = subst (Holds f) p u.0
stated (x ∷ es) f u e (inr a) = stated es f u.1 e a

all-stated : (es : List Equation) (f : List Fill) → ((e : Equation) → Among e es → Holds f e) → IsUnifier es f
all-stated [] f k = tt
all-stated (x ∷ es) f k = (k x (inl refl), all-stated es f (λ e a. k e (inr a)))

-- a unifier is a linking
pub unifier-links : (required : List Text) (is : List OpenInclude) → AreOpen required is → (f : List Fill)
    → IsUnifier (equations_of required is) f → IsLinking required is (λ n. at_hole n f)
unifier-links required is o f u = record {
  meets = λ i a p b r. sym (filled-under p.ident i.needs f (o.held i a p b))
      ∙ sym (stated (equations_of required is) f u (equation i.needs p) (among-equations required is i p r a b));
}

-- the fills of a linking are a unifier
pub linking-unifies : (required : List Text) (is : List OpenInclude) → AreOpen required is → (s : Text → Ident)
    → IsLinking required is s → IsUnifier (equations_of required is) (fills_for s required)
linking-unifies required is o s l = all-stated (equations_of required is) (fills_for s required) each
  where
    each : (e : Equation) → Among e (equations_of required is) → Holds (fills_for s required) e
    each e a =
        let r = equation-from required is e a in
        let w = r.2 in
        let i = w.source in
        let p = w.provision in
        let there : Among p.name required = subst (λ (n : Text). Among n required) (sym w.named) r.1 in
        subst (Holds (fills_for s required)) w.states (at-for s required p.name there
        ∙ sym (filled-under p.ident i.needs (fills_for s required) (o.held i w.listed p w.provided)
        ∙ ap (filled p.ident) (same-under (λ n. at_hole n (fills_for s required)) s i.needs
        (λ q b. at-for s required q.to (o.needed i w.listed q b))) ∙ l.meets i w.listed p w.provided there))

pub linkings_are_unifiers : LinkingsAreUnifiers
linkings_are_unifiers required is o = (unifier-links required is o, linking-unifies required is o)
