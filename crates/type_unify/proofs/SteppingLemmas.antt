-- What a step of unification shows.
use Rattle.std.proofs.Common.{◌≡◌, ℕ, ◌+◌, ◌<◌, Bool, true, List, [], ◌∷◌, ◌++◌, length, Option, Some, None, ◌⊎◌, inl}
use Rattle.std.proofs.Common.{inr, refl, sym, ap, ap₂, subst, ◌∙◌, arith, append_assoc}
use Rattle.type_terms.specs.Terms.{var, con, app, applied, Every}
use Rattle.type_unify.specs.Types.{Plain, rigid, bare, Same, Assignment, Equals, named}
use Rattle.type_unify.specs.declared.cell.Cell.{Cell}
use Rattle.type_unify.specs.declared.solve.Wanted.{Wanted}
use Rattle.type_unify.specs.Cells.{seen}
use Rattle.type_unify.specs.Steps.{AllEqual, EveryPair, AllWithin, size, weight, Follows, Asks}
use Rattle.type_unify.specs.Outcomes.{Reduces, HaveNoSolution, Step, Advance}
use Rattle.type_unify.specs.Differences.{PartsOf, BindOf}
use Rattle.type_unify.proofs.StackingLemmas.{size-positive}

applied-bare : (s : Assignment) (t : Plain) → bare (applied s t) ≡ bare (applied s (bare t))
applied-bare s (var i) = refl
applied-bare s (con (rigid i)) = refl
applied-bare s (con (named n k)) = refl
applied-bare s (app f a) = ap₂ app (applied-bare s f) (applied-bare s a)

-- types that are equal stay so
pub Equals-same : (s : Assignment) (t u : Plain) → Same t u → Equals s t u
Equals-same s t u e = applied-bare s t ∙ ap (λ z. bare (applied s z)) e ∙ sym (applied-bare s u)

pub AllEqual-push : (s : Assignment) (f : ℕ → Plain) (ps : List (ℕ × ℕ)) (p : ℕ × ℕ) → AllEqual s f ps
    → Equals s (f p.0) (f p.1) → AllEqual s f (ps ++ p ∷ [])
AllEqual-push s f [] p h e = (e, tt)
AllEqual-push s f (q ∷ ps) p h e = (h.0, AllEqual-push s f ps p h.1 e)

pub AllEqual-front : (s : Assignment) (f : ℕ → Plain) (ps : List (ℕ × ℕ)) (p : ℕ × ℕ) → AllEqual s f (ps ++ p ∷ [])
    → AllEqual s f ps × Equals s (f p.0) (f p.1)
AllEqual-front s f [] p h = (tt, h.0)
AllEqual-front s f (q ∷ ps) p h = let r = AllEqual-front s f ps p h.1 in ((h.0, r.0), r.1)

pub EveryPair-push : (p : ℕ → Bool) (q : _) (f : ℕ → Plain) (es : List (ℕ × ℕ)) (e : ℕ × ℕ) → EveryPair p q f es
    → Every p q (f e.0) → Every p q (f e.1) → EveryPair p q f (es ++ e ∷ [])
EveryPair-push p q f [] e h a b = (a, b, tt)
EveryPair-push p q f (d ∷ es) e h a b = (h.0, h.1, EveryPair-push p q f es e h.2 a b)

pub EveryPair-front : (p : ℕ → Bool) (q : _) (f : ℕ → Plain) (es : List (ℕ × ℕ)) (e : ℕ × ℕ)
    → EveryPair p q f (es ++ e ∷ []) → EveryPair p q f es × Every p q (f e.0) × Every p q (f e.1)
EveryPair-front p q f [] e h = (tt, h.0, h.1)
EveryPair-front p q f (d ∷ es) e h = let r = EveryPair-front p q f es e h.2 in ((h.0, h.1, r.0), r.1, r.2)

pub AllWithin-push : (m : ℕ) (ps : List (ℕ × ℕ)) (p : ℕ × ℕ) → AllWithin m ps → p.0 < m → p.1 < m
    → AllWithin m (ps ++ p ∷ [])
AllWithin-push m [] p h a b = (a, b, tt)
AllWithin-push m (q ∷ ps) p h a b = (h.0, h.1, AllWithin-push m ps p h.2 a b)

pub AllWithin-front : (m : ℕ) (ps : List (ℕ × ℕ)) (p : ℕ × ℕ) → AllWithin m (ps ++ p ∷ [])
    → AllWithin m ps × (p.0 < m) × (p.1 < m)
AllWithin-front m [] p h = (tt, h.0, h.1)
AllWithin-front m (q ∷ ps) p h = let r = AllWithin-front m ps p h.2 in ((h.0, h.1, r.0), r.1, r.2)

pub weight-push : (f : ℕ → Plain) (ps : List (ℕ × ℕ)) (p : ℕ × ℕ)
    → weight f (ps ++ p ∷ []) ≡ size (f p.0) + size (f p.1) + weight f ps
weight-push f [] p = refl
weight-push f (q ∷ ps) p = omega (arith, weight-push f ps p)

-- the two are equal: nothing is left of the pair
pub Reduces-same : (f : ℕ → Plain) (m : ℕ) (old new : List (ℕ × ℕ)) (a b : ℕ) → new ≡ old → Same (f a) (f b)
    → Reduces f m (old ++ (a, b) ∷ []) new
Reduces-same f m old new a b e h = record {
  follows = record {
    same = λ s. (
      (λ k. subst (AllEqual s f) (sym e) (AllEqual-front s f old (a, b) k).0),
      (λ k. AllEqual-push s f old (a, b) (subst (AllEqual s f) e k) (Equals-same s (f a) (f b) h)),
    );
    closed = λ p q k. subst (EveryPair p q f) (sym e) (EveryPair-front p q f old (a, b) k).0;
    within = λ k. subst (AllWithin m) (sym e) (AllWithin-front m old (a, b) k).0;
  };
  fewer = let z = ap (weight f) e in omega (arith, z, weight-push f old (a, b), size-positive (f a));
}

app_parts : (a b c d : Plain) → app a b ≡ app c d → (a ≡ c) × (b ≡ d)
app_parts a b c d e = (cc, cc)

two_pushes : (is : List (ℕ × ℕ)) (a g : ℕ × ℕ) → is ++ a ∷ g ∷ [] ≡ (is ++ a ∷ []) ++ g ∷ []
two_pushes is a g = sym (append_assoc is (a ∷ []) (g ∷ []))

-- both are applications: their parts are left
pub Reduces-parts : (cs : List Cell) (es old new : List (ℕ × ℕ)) (a b : ℕ) (g h : ℕ × ℕ) → new ≡ old ++ h ∷ g ∷ []
    → PartsOf cs es a b g h → Reduces (seen cs es) (length cs) (old ++ (a, b) ∷ []) new
Reduces-parts cs es old new a b g h e w =
    let f = seen cs es in
    let two : new ≡ (old ++ h ∷ []) ++ g ∷ [] = e ∙ two_pushes old h g in
    record {
      follows = record {
        same = λ s. (
          (λ k.
              let r = AllEqual-front s f old (a, b) k in
              let z : app (bare (applied s (f g.0))) (bare (applied s (f h.0))) ≡ app (bare (applied s (f g.1)))
              (bare (applied s (f h.1))) =
              ap (λ t. bare (applied s t)) (sym w.left) ∙ r.1 ∙ ap (λ t. bare (applied s t)) w.right in
              let y = app_parts _ _ _ _ z in
              subst (AllEqual s f) (sym two) (AllEqual-push s f (old ++ h ∷ []) g
              (AllEqual-push s f old h r.0 y.1) y.0)),
          (λ k.
              let r = AllEqual-front s f (old ++ h ∷ []) g (subst (AllEqual s f) two k) in
              let t = AllEqual-front s f old h r.0 in
              AllEqual-push s f old (a, b) t.0 (ap (λ u. bare (applied s u)) w.left ∙ ap₂ app r.1 t.1
              ∙ ap (λ u. bare (applied s u)) (sym w.right))),
        );
        closed = λ p q k.
            let r = EveryPair-front p q f old (a, b) k in
            let x = subst (Every p q) w.left r.1 in
            let y = subst (Every p q) w.right r.2 in
            subst (EveryPair p q f) (sym two) (EveryPair-push p q f (old ++ h ∷ []) g
            (EveryPair-push p q f old h r.0 x.1 y.1) x.0 y.0);
        within = λ k.
            subst (AllWithin (length cs)) (sym two)
            (AllWithin-push (length cs) (old ++ h ∷ []) g
            (AllWithin-push (length cs) old h (AllWithin-front (length cs) old (a, b) k).0 w.left_arg w.right_arg)
            w.left_fun w.right_fun);
      };
      fewer =
          let z = ap (weight f) two in
          let x = ap size w.left in
          let y = ap size w.right in
          omega (arith, z, x, y, weight-push f old (a, b), weight-push f (old ++ h ∷ []) g, weight-push f old h);
    }

-- one is a free unknown
pub Asks-bind : (cs : List Cell) (es old new : List (ℕ × ℕ)) (a b x n : ℕ) → new ≡ old → BindOf cs es a b x n
    → Asks cs es (old ++ (a, b) ∷ []) new x n
Asks-bind cs es old new a b x n e w =
    let f = seen cs es in
    record {
      free = w.free;
      same = λ s. (
        (λ k. let r = AllEqual-front s f old (a, b) k in (there s w.ends r.1, subst (AllEqual s f) (sym e) r.0)),
        (λ k. AllEqual-push s f old (a, b) (subst (AllEqual s f) e k.1) (back s w.ends k.0)),
      );
      closed = λ p q k.
          let r = EveryPair-front p q f old (a, b) k in
          let t = every p q w.ends r.1 r.2 in
          (t.0, t.1, subst (EveryPair p q f) (sym e) r.0);
      within = λ k. subst (AllWithin (length cs)) (sym e) (AllWithin-front (length cs) old (a, b) k).0;
    }
  where
    there : (s : Assignment) → (seen cs es a ≡ var x) × (seen cs es b ≡ seen cs es n) ⊎ (seen cs es b ≡ var x)
        × (seen cs es a ≡ seen cs es n) → Equals s (seen cs es a) (seen cs es b) → Equals s (var x) (seen cs es n)
    there s (inl p) h = ap (λ t. bare (applied s t)) (sym p.0) ∙ h ∙ ap (λ t. bare (applied s t)) p.1
    there s (inr p) h = ap (λ t. bare (applied s t)) (sym p.0) ∙ sym h ∙ ap (λ t. bare (applied s t)) p.1

    back : (s : Assignment) → (seen cs es a ≡ var x) × (seen cs es b ≡ seen cs es n) ⊎ (seen cs es b ≡ var x)
        × (seen cs es a ≡ seen cs es n) → Equals s (var x) (seen cs es n) → Equals s (seen cs es a) (seen cs es b)
    back s (inl p) h = ap (λ t. bare (applied s t)) p.0 ∙ h ∙ ap (λ t. bare (applied s t)) (sym p.1)
    back s (inr p) h = ap (λ t. bare (applied s t)) p.1 ∙ sym h ∙ ap (λ t. bare (applied s t)) (sym p.0)

    every : (p : ℕ → Bool) (q : _) → (seen cs es a ≡ var x) × (seen cs es b ≡ seen cs es n) ⊎ (seen cs es b ≡ var x)
        × (seen cs es a ≡ seen cs es n) → Every p q (seen cs es a) → Every p q (seen cs es b)
        → (p x ≡ true) × Every p q (seen cs es n)
    every p q (inl e) h k = (subst (Every p q) e.0 h, subst (Every p q) e.1 k)
    every p q (inr e) h k = (subst (Every p q) e.0 k, subst (Every p q) e.1 h)

pub HaveNoSolution-clash : (f : ℕ → Plain) (old : List (ℕ × ℕ)) (a b : ℕ)
    → ((s : Assignment) → Equals s (f a) (f b) → ⊥) → HaveNoSolution f (old ++ (a, b) ∷ [])
HaveNoSolution-clash f old a b n s h = n s (AllEqual-front s f old (a, b) h).1

-- ---- many steps

pub Follows-step : (f : ℕ → Plain) (m : ℕ) (first old popped new : List (ℕ × ℕ)) (p : ℕ × ℕ) → Follows f m first old
    → old ≡ popped ++ p ∷ [] → Reduces f m (popped ++ p ∷ []) new → Follows f m first new
Follows-step f m first old popped new p h e r = record {
  same = λ s. (
    (λ k. (r.follows.same s).0 (subst (AllEqual s f) e ((h.same s).0 k))),
    (λ k. (h.same s).1 (subst (AllEqual s f) (sym e) ((r.follows.same s).1 k))),
  );
  closed = λ a b k. r.follows.closed a b (subst (EveryPair a b f) e (h.closed a b k));
  within = λ k. r.follows.within (subst (AllWithin m) e (h.within k));
}

pub weight-step : (f : ℕ → Plain) (m : ℕ) (old popped new : List (ℕ × ℕ)) (p : ℕ × ℕ) → old ≡ popped ++ p ∷ []
    → Reduces f m (popped ++ p ∷ []) new → weight f new < weight f old
weight-step f m old popped new p e r = let z = ap (weight f) e in omega (arith, z, r.fewer)

pub Asks-after : (cs : List Cell) (es first old popped new : List (ℕ × ℕ)) (p : ℕ × ℕ) (x n : ℕ)
    → Follows (seen cs es) (length cs) first old → old ≡ popped ++ p ∷ [] → Asks cs es (popped ++ p ∷ []) new x n
    → Asks cs es first new x n
Asks-after cs es first old popped new p x n h e r = record {
  free = r.free;
  same = λ s. (
    (λ k. (r.same s).0 (subst (AllEqual s (seen cs es)) e ((h.same s).0 k))),
    (λ k. (h.same s).1 (subst (AllEqual s (seen cs es)) (sym e) ((r.same s).1 k))),
  );
  closed = λ a b k. r.closed a b (subst (EveryPair a b (seen cs es)) e (h.closed a b k));
  within = λ k. r.within (subst (AllWithin (length cs)) e (h.within k));
}

pub HaveNoSolution-after : (f : ℕ → Plain) (m : ℕ) (first old popped : List (ℕ × ℕ)) (p : ℕ × ℕ) → Follows f m first old
    → old ≡ popped ++ p ∷ [] → HaveNoSolution f (popped ++ p ∷ []) → HaveNoSolution f first
HaveNoSolution-after f m first old popped p h e r s k = r s (subst (AllEqual s f) e ((h.same s).0 k))

pub AllEqual-done : (f : ℕ → Plain) (m : ℕ) (first old : List (ℕ × ℕ)) → Follows f m first old → old ≡ []
    → (s : Assignment) → AllEqual s f first
AllEqual-done f m first old h e s = (h.same s).1 (subst (AllEqual s f) (sym e) tt)

pub first_within : (f : ℕ → Plain) (m : ℕ) (first old popped : List (ℕ × ℕ)) (p : ℕ × ℕ) → Follows f m first old
    → AllWithin m first → old ≡ popped ++ p ∷ [] → (p.0 < m) × (p.1 < m)
first_within f m first old popped p h w e = let r = AllWithin-front m popped p (subst (AllWithin m) e (h.within w)) in
    (r.1, r.2)

pub Step-none : (cs : List Cell) (es old new : List (ℕ × ℕ)) (r : Option Wanted) → Step cs es old new r → r ≡ None
    → Reduces (seen cs es) (length cs) old new
Step-none cs es old new r h e = subst (Step cs es old new) e h

pub Step-some : (cs : List Cell) (es old new : List (ℕ × ℕ)) (r : Option Wanted) (w : Wanted) → Step cs es old new r
    → r ≡ Some w → Asks cs es old new w.id w.to
Step-some cs es old new r w h e = subst (Step cs es old new) e h

pub Advance-none : (cs : List Cell) (es old new : List (ℕ × ℕ)) (r : Option Wanted) → Advance cs es old new r → r ≡ None
    → (s : Assignment) → AllEqual s (seen cs es) old
Advance-none cs es old new r h e = subst (Advance cs es old new) e h

pub Advance-some : (cs : List Cell) (es old new : List (ℕ × ℕ)) (r : Option Wanted) (w : Wanted)
    → Advance cs es old new r → r ≡ Some w → Asks cs es old new w.id w.to
Advance-some cs es old new r w h e = subst (Advance cs es old new) e h
