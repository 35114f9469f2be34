-- Look-ups in a table, and what joining classes keeps.
use Rattle.std.proofs.Common.{◌≡◌, ℕ, zero, suc, ◌<◌, Bool, true, false, cond, nat_eq, List, [], ◌∷◌, ◌++◌, length}
use Rattle.std.proofs.Common.{get_or, drop, ◌⊎◌, inl, inr, refl, ap, sym, ◌∙◌, subst, arith}
use Rattle.std.proofs.lemmas.List.{length-map}
use Rattle.std.proofs.lemmas.Bool.{eqb-true, eq-eqb}
use Rattle.std.specs.Prelude.{Option, Some, None}
use Rattle.bp_base.specs.declared.ident.Ident.{Ident}
use Rattle.bp_base.specs.Lists.{Among}
use Rattle.hole_unify.specs.declared.equation.Equation.{Equation}
use Rattle.hole_unify.specs.Table.{Node}
use Rattle.hole_unify.specs.Classes.{Same, Turned, Joined}
use Rattle.ident_table.specs.Parts.{terms_of, terms_below, terms_of_row, terms_in_fills}
use Rattle.hole_unify.specs.Table.{is_same, class_at, terms_in, renumbered, renumbered_node, moved}
use Rattle.hole_unify.specs.Tables.{In, One, IsTable}
use Rattle.std.specs.Str.{bytes_eq}
use Rattle.std.proofs.lemmas.Option.{same_Some}
use Rattle.ident_table.proofs.NumberingLemmas.{terms_below-out}
use Rattle.bp_base.proofs.SetLemmas.{among-left, among-right, among-either, among-map, among-image}
use Rattle.bp_base.proofs.IdentLemmas.{Module-is, Hole-not-Module}
use Rattle.bp_base.specs.declared.ident.Ident.TheVariants.{Hole, Module, Module'}
use Rattle.bp_base.specs.declared.ident.Unit.{Unit as OfUnit, Unit', out-Unit}
use Rattle.bp_base.specs.declared.ident.Fill.{Fill}
use Rattle.bp_base.specs.declared.ident.Ident.TheBlock.{end_of-Unit, more_of-Unit, Row_of-Fill, end_of-Fill}
use Rattle.bp_base.specs.declared.ident.Ident.TheBlock.{more_of-Fill}
use Rattle.bp_base.specs.Texts.{Text}
use Rattle.unit_identity.specs.Fill.{found}
use Rattle.hole_unify.proofs.UnifyingLemmas.{Module-unit}
use Rattle.hole_unify.proofs.TermLemmas.{same_terms, terms_same}

-- ---- items of lists

pub Among-get_or : {A : Type 0} (l : List A) (i : ℕ) (d : A) → i < length l → Among (get_or l i d) l
Among-get_or [] i d lt = absurd (omega (arith, lt))
Among-get_or (x ∷ l) zero d lt = inl refl
Among-get_or (x ∷ l) (suc i) d lt = inr (Among-get_or l i d (omega (arith, lt)))

pub Among-read : {A : Type 0} (l : List A) (i : ℕ) (x : A) → i < length l → x ≡ get_or l i x → Among x l
Among-read l i x lt is = subst (λ z. Among z l) (sym is) (Among-get_or l i x lt)

pub Among-drop : {A : Type 0} (x : A) (l : List A) (i : ℕ) → Among x (drop i l) → Among x l
Among-drop x [] zero h = h
Among-drop x [] (suc i) h = h
Among-drop x (y ∷ l) zero h = h
Among-drop x (y ∷ l) (suc i) h = inr (Among-drop x l i h)

-- ---- looking up

pub class_at-found : (t : Ident) (nodes : List Node) (k : ℕ) → class_at t nodes ≡ Some k → In nodes t k
class_at-found t [] k e = cc
class_at-found t (x ∷ xs) k e = by (is_same x.ident t) refl e (class_at-found t xs k)
  where
    by : (b : Bool) → is_same x.ident t ≡ b → cond b (Some x.class) (class_at t xs) ≡ Some k
        → (class_at t xs ≡ Some k → In xs t k) → In (x ∷ xs) t k
    by true d e r = (x, inl refl, same_terms x.ident t d, same_Some x.class k e)
    by false d e r = let y = r e in (y.0, inr y.1, y.2, y.3)

pub class_at-none : (t : Ident) (nodes : List Node) → class_at t nodes ≡ None → (x : Node) → Among x nodes → x.ident ≡ t
    → ⊥
class_at-none t [] e x h is = h
class_at-none t (y ∷ ys) e x h is = by (is_same y.ident t) refl e h (λ d a. class_at-none t ys d x a is)
  where
    by : (b : Bool) → is_same y.ident t ≡ b → cond b (Some y.class) (class_at t ys) ≡ None → (y ≡ x) ⊎ Among x ys
        → (class_at t ys ≡ None → Among x ys → ⊥) → ⊥
    by true d e h r = cc
    by false d e (inl s) r = let p : is_same y.ident t ≡ true = ap (λ z. is_same z t) (ap (λ z. z.ident) s ∙ is)
        ∙ terms_same t in let q : false ≡ true = sym d ∙ p in cc
    by false d e (inr a) r = r e a

-- ---- joining two classes

-- numbers that become one
pub renumbered-cases : (from to p q : ℕ) → renumbered from to p ≡ renumbered from to q
    → (p ≡ q) ⊎ (((p ≡ from) × (q ≡ to)) ⊎ ((p ≡ to) × (q ≡ from)))
renumbered-cases from to p q = by (nat_eq p from) (nat_eq q from) refl refl
  where
    by : (a b : Bool) → nat_eq p from ≡ a → nat_eq q from ≡ b → cond (nat_eq p from) to p ≡ cond (nat_eq q from) to q
        → (p ≡ q) ⊎ (((p ≡ from) × (q ≡ to)) ⊎ ((p ≡ to) × (q ≡ from)))
    by true true d e h = inl (eqb-true p from d ∙ sym (eqb-true q from e))
    by true false d e h = inr (inl (
      eqb-true p from d,
      sym (sym (ap (λ b. cond b to p) d) ∙ h
          ∙ ap (λ b. cond b to q) e),
    ))
    by false true d e h = inr (inr (sym (ap (λ b. cond b to p) d) ∙ h ∙ ap (λ b. cond b to q) e, eqb-true q from e))
    by false false d e h = inl (sym (ap (λ b. cond b to p) d) ∙ h ∙ ap (λ b. cond b to q) e)

pub In-moved : (nodes : List Node) (from to : ℕ) (t : Ident) (k : ℕ) → In nodes t k
    → In (moved from to nodes) t (renumbered from to k)
In-moved nodes from to t k (x, h, i, c) = (
  renumbered_node from to x,
  among-map (renumbered_node from to) x nodes h,
  i,
  ap (renumbered from to) c,
)

pub In-unmoved : (nodes : List Node) (from to : ℕ) (t : Ident) (k : ℕ) → In (moved from to nodes) t k
    → (l : ℕ) × In nodes t l × (renumbered from to l ≡ k)
In-unmoved nodes from to t k (x, h, i, c) =
    let y = among-image (renumbered_node from to) x nodes h in
    (y.0.class, (y.0, y.1, ap (λ v. v.ident) y.2 ∙ i, refl), ap (λ v. v.class) y.2 ∙ c)

pub One-moved : (nodes : List Node) (from to : ℕ) (a b : Ident) → One nodes a b → One (moved from to nodes) a b
One-moved nodes from to a b (k, p, q) = (
  renumbered from to k,
  In-moved nodes from to a k p,
  In-moved nodes from to b k q,
)

-- terms of two classes become of one
pub One-joined : (nodes : List Node) (from to : ℕ) (a b : Ident) → In nodes a from → In nodes b to
    → One (moved from to nodes) a b
One-joined nodes from to a b p q =
    let first : renumbered from to from ≡ to = ap (λ c. cond c to from) (eq-eqb from from refl) in
    let second : renumbered from to to ≡ to = by (nat_eq to from) refl in (
      to,
      subst (λ k. In (moved from to nodes) a k) first (In-moved nodes from to a from p),
      subst (λ k. In (moved from to nodes) b k) second (In-moved nodes from to b to q),
    )
  where
    by : (c : Bool) → nat_eq to from ≡ c → cond (nat_eq to from) to to ≡ to
    by true e = ap (λ c. cond c to to) e
    by false e = ap (λ c. cond c to to) e

-- nodes of one class are the same
pub sound-In : (es : List Equation) (nodes : List Node) → IsTable es nodes → (a b : Ident) (k : ℕ) → In nodes a k
    → In nodes b k → Same es a b
sound-In es nodes t a b k (x, h, i, c) (y, g, j, d) =
    subst (λ v. Same es v b) i (subst (λ v. Same es x.ident v) j (t.sound x y h g (c ∙ sym d)))

pub moved-table : (es : List Equation) (nodes : List Node) (from to : ℕ) (a b : Ident) → In nodes a from → In nodes b to
    → Same es a b → IsTable es nodes → IsTable es (moved from to nodes)
moved-table es nodes from to a b p q same t = record {
  listed = λ s h. let k = t.listed s h in (renumbered from to k.0, In-moved nodes from to s k.0 k.1);
  only = λ x h. let y = among-image (renumbered_node from to) x nodes h in
      subst (λ v. Among v (terms_in es)) (ap (λ v. v.ident) y.2) (t.only y.0 y.1);
  one = λ s k l c d. let x = In-unmoved nodes from to s k c in let y = In-unmoved nodes from to s l d in
      sym x.2 ∙ ap (renumbered from to) (t.one s x.0 y.0 x.1 y.1) ∙ y.2;
  below = λ x h. below x (among-image (renumbered_node from to) x nodes h);
  sound = λ x y h g e. sound x y (among-image (renumbered_node from to) x nodes h)
      (among-image (renumbered_node from to) y nodes g) e;
}
  where
    below : (x : Node) → (v : Node) × Among v nodes × (renumbered_node from to v ≡ x)
        → x.class < length (moved from to nodes)
    below x (v, h, e) = by (nat_eq v.class from) refl
      where
        by : (c : Bool) → nat_eq v.class from ≡ c → x.class < length (moved from to nodes)
        by true d =
            let is : to ≡ x.class = sym (ap (λ b. cond b to v.class) d) ∙ ap (λ z. z.class) e in
            let lt = t.below q.0 q.1 in let there = q.3 in let same = length-map nodes (renumbered_node from to) in
            omega (arith, is, lt, there, same)
        by false d =
            let is : v.class ≡ x.class = sym (ap (λ b. cond b to v.class) d) ∙ ap (λ z. z.class) e in
            let lt = t.below v h in let same = length-map nodes (renumbered_node from to) in omega (arith, is, lt, same)

    across : (v w : Node) → Among v nodes → Among w nodes → v.class ≡ from → w.class ≡ to → Same es v.ident w.ident
    across v w h g c d =
        let first : Same es v.ident a = sound-In es nodes t v.ident a from (v, h, refl, c) p in
        let last : Same es b w.ident = sound-In es nodes t b w.ident to q (w, g, refl, d) in
        Joined v.ident a w.ident first (Joined a b w.ident same last)

    of : (v w : Node) → Among v nodes → Among w nodes
        → (v.class ≡ w.class) ⊎ (((v.class ≡ from) × (w.class ≡ to)) ⊎ ((v.class ≡ to) × (w.class ≡ from)))
        → Same es v.ident w.ident
    of v w h g (inl e) = t.sound v w h g e
    of v w h g (inr (inl e)) = across v w h g e.0 e.1
    of v w h g (inr (inr e)) = Turned w.ident v.ident (across w v g h e.1 e.0)

    sound : (x y : Node) → (v : Node) × Among v nodes × (renumbered_node from to v ≡ x)
        → (w : Node) × Among w nodes × (renumbered_node from to w ≡ y) → x.class ≡ y.class → Same es x.ident y.ident
    sound x y (v, h, c) (w, g, d) e =
        let both = renumbered-cases from to v.class w.class (ap (λ z. z.class) c ∙ e ∙ sym (ap (λ z. z.class) d)) in
        subst (λ z. Same es z y.ident) (ap (λ z. z.ident) c)
        (subst (λ z. Same es v.ident z) (ap (λ z. z.ident) d) (of v w h g both))

pub listed-class : (es : List Equation) (nodes : List Node) → IsTable es nodes → (a : Ident) → Among a (terms_in es)
    → (k : ℕ) × (class_at a nodes ≡ Some k)
listed-class es nodes t a h = by (class_at a nodes) refl
  where
    by : (o : Option ℕ) → class_at a nodes ≡ o → (k : ℕ) × (class_at a nodes ≡ Some k)
    by None e = let x = t.listed a h in absurd (class_at-none a nodes e x.1.0 x.1.1 x.1.2)
    by (Some k) e = (k, e)

-- what the equations list
pub terms_of-self : (i : Ident) → Among i (terms_of i)
terms_of-self (Hole n) = inl refl
terms_of-self (Module' s (more_of-Unit u end_of-Unit) m) = inl (sym (Module-is s u m))

pub left-listed : (es : List Equation) (e : Equation) → Among e es → Among e.left (terms_in es)
left-listed [] e h = absurd h
left-listed (x ∷ es) e (inl is) = among-left e.left (terms_of x.left) _
    (subst (λ v. Among v.left (terms_of x.left)) is (terms_of-self x.left))
left-listed (x ∷ es) e (inr h) = among-right e.left (terms_of x.left) _
    (among-right e.left (terms_of x.right) _ (left-listed es e h))

pub right-listed : (es : List Equation) (e : Equation) → Among e es → Among e.right (terms_in es)
right-listed [] e h = absurd h
right-listed (x ∷ es) e (inl is) = among-right e.right (terms_of x.left) _
    (among-left e.right (terms_of x.right) _ (subst (λ v. Among v.right (terms_of x.right)) is (terms_of-self x.right)))
right-listed (x ∷ es) e (inr h) = among-right e.right (terms_of x.left) _
    (among-right e.right (terms_of x.right) _ (right-listed es e h))

-- ---- what is below a term is listed too

mutual
  below-term : (a : Ident) (u : OfUnit) (m : Text) (i : Ident) → Among (Module u m) (terms_of a)
      → Among i (terms_in_fills (out-Unit u).fills) → Among i (terms_of a)
  below-term (Hole n) u m i (inl e) g = absurd (Hole-not-Module n u m e)
  below-term (Hole n) u m i (inr h) g = absurd h
  below-term (Module' s (more_of-Unit v end_of-Unit) n) u m i (inl e) g =
      let is : v ≡ u = Module-unit v u n m e in inr
      (subst (λ w. Among i (terms_below w)) (sym is) (subst (λ l. Among i l) (sym (terms_below-out u)) g))
  below-term (Module' s (more_of-Unit v end_of-Unit) n) u m i (inr h) g = inr (below-unit v u m i h g)

  below-unit : (v u : OfUnit) (m : Text) (i : Ident) → Among (Module u m) (terms_below v)
      → Among i (terms_in_fills (out-Unit u).fills) → Among i (terms_below v)
  below-unit (Unit' c s r) u m i h g = below-row r u m i h g

  below-row : {k : _} (r : Row_of-Fill k) (u : OfUnit) (m : Text) (i : Ident) → Among (Module u m) (terms_of_row r)
      → Among i (terms_in_fills (out-Unit u).fills) → Among i (terms_of_row r)
  below-row end_of-Fill u m i h g = absurd h
  below-row (more_of-Fill n a r) u m i h g = elim (among-either (Module u m) (terms_of a) (terms_of_row r) h) [
    | inl x ↦ among-left i (terms_of a) _ (below-term a u m i x g)
    | inr y ↦ among-right i (terms_of a) _ (below-row r u m i y g)
  ]

found-listed : (n : Text) (fs : List Fill) (i : Ident) → found n fs ≡ Some i → Among i (terms_in_fills fs)
found-listed n [] i e = cc
found-listed n (f ∷ fs) i e = by (bytes_eq f.hole n) e (found-listed n fs i)
  where
    by : (b : Bool) → cond b (Some f.ident) (found n fs) ≡ Some i → (found n fs ≡ Some i → Among i (terms_in_fills fs))
        → Among i (terms_of f.ident ++ terms_in_fills fs)
    by true d k = among-left i (terms_of f.ident) _
        (subst (λ v. Among v (terms_of f.ident)) (same_Some f.ident i d) (terms_of-self f.ident))
    by false d k = among-right i (terms_of f.ident) _ (k d)

pub fill-listed : (es : List Equation) (u : OfUnit) (m n : Text) (i : Ident) → Among (Module u m) (terms_in es)
    → found n (out-Unit u).fills ≡ Some i → Among i (terms_in es)
fill-listed [] u m n i h e = absurd h
fill-listed (x ∷ es) u m n i h e =
    let g = found-listed n (out-Unit u).fills i e in
    elim (among-either (Module u m) (terms_of x.left) _ h) [
      | inl a ↦ among-left i (terms_of x.left) _ (below-term x.left u m i a g)
      | inr r ↦ among-right i (terms_of x.left) _ (elim (among-either (Module u m) (terms_of x.right) _ r) [
        | inl b ↦ among-left i (terms_of x.right) _ (below-term x.right u m i b g)
        | inr c ↦ among-right i (terms_of x.right) _ (fill-listed es u m n i c e)
      ])
    ]
