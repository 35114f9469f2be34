-- The run of unification: what holds between two bindings, and how it ends.
use Rattle.std.proofs.Common.{◌≡◌, ℕ, zero, suc, ◌+◌, ◌<◌, ◌≤◌, ◌^◌, Bool, true, false, ◌||◌, List, [], ◌∷◌, ◌++◌}
use Rattle.std.proofs.Common.{length, Option, Some, None, inl, inr, refl, sym, ap, subst, ◌∙◌, arith, append_assoc}
use Rattle.std.proofs.Common.{append-nil, true≢false, eq-eqb}
use Rattle.std.specs.Prelude.{nat_eq}
use Rattle.std.specs.Map.{lookup}
use Rattle.std.proofs.lemmas.Bool.{or_from}
use Rattle.type_terms.specs.Terms.{var, applied, occurs_in, Every}
use Rattle.type_unify.specs.Types.{Head, bare, Assignment, Equals, Solves, Bound, EveryBound}
use Rattle.type_unify.specs.declared.cell.Cell.{Cell}
use Rattle.type_unify.specs.Cells.{at, trees, bounds, seen, hops_in, hops, IsTable}
use Rattle.type_unify.specs.Steps.{AllEqual, EveryPair, AllWithin, Free, Asks}
use Rattle.type_unify.specs.Outcomes.{HaveNoSolution, Grows, Solved}
use Rattle.type_unify.specs.Unified.{NotSolvable}
use Rattle.type_unify.proofs.SolvingLemmas.{test_cases, applied-replaced, applied-resolved, Solves-front, Solves-last}
use Rattle.type_unify.proofs.SolvingLemmas.{Solves-push, occurs_unsolvable, Every-replaced, Every-resolved}
use Rattle.type_unify.proofs.SolvingLemmas.{EveryBound-push}
use Rattle.type_unify.proofs.TableLemmas.{Binds, bounds-push, seen-binds, IsTable-bind}

-- ---- how many unknowns are free

abbrev pub bound_in : ℕ → List Bound → Bool
bound_in x [] = false
bound_in x (b ∷ bs) = nat_eq x b.id || bound_in x bs

abbrev one_unless : Bool → ℕ
one_unless true = 0
one_unless false = 1

pub unbound_below : ℕ → List Bound → ℕ
unbound_below zero bs = 0
unbound_below (suc n) bs = one_unless (bound_in n bs) + unbound_below n bs

bound_in-push : (x : ℕ) (bs : List Bound) (b : Bound) → bound_in x (bs ++ b ∷ []) ≡ (bound_in x bs || nat_eq x b.id)
bound_in-push x [] b = elim (nat_eq x b.id) as (λ v. (v || false) ≡ v) [ true ↦ refl | false ↦ refl ]
bound_in-push x (c ∷ bs) b = elim (nat_eq x c.id) as
    (λ v. (v || bound_in x (bs ++ b ∷ [])) ≡ ((v || bound_in x bs) || nat_eq x b.id)) [
      | true ↦ refl
      | false ↦
          bound_in-push x bs b
    ]

free_unbound : (bs : List Bound) (x : ℕ) → hops_in bs (var x) ≡ 0 → bound_in x bs ≡ false
free_unbound [] x h = refl
free_unbound (b ∷ bs) x h =
    elim (test_cases b.id x) [
      | inl p ↦ absurd (omega (arith, rw p.1 at h))
      | inr p ↦
          let ne : nat_eq x b.id ≡ false = elim (test_cases x b.id) [
            | inl e ↦
                absurd (true≢false (sym (eq-eqb b.id x (sym e.0)) ∙ p))
            | inr e ↦ e
          ] in
          or_from _ _ ne (free_unbound bs x (rw p at h))
    ]

one_unless-le : (a b : Bool) → one_unless (a || b) ≤ one_unless a
one_unless-le true b = omega arith
one_unless-le false true = omega arith
one_unless-le false false = omega arith

unbound-le : (n : ℕ) (bs : List Bound) (b : Bound) → unbound_below n (bs ++ b ∷ []) ≤ unbound_below n bs
unfolding unbound_below
unbound-le zero bs b = omega arith
unbound-le (suc n) bs b =
    rw bound_in-push (omega (arith, one_unless-le (bound_in n bs) (nat_eq n b.id), unbound-le n bs b))

-- one fewer unknown is free after a push
unbound-push : (n : ℕ) (bs : List Bound) (b : Bound) → b.id < n → bound_in b.id bs ≡ false
    → unbound_below n (bs ++ b ∷ []) < unbound_below n bs
unfolding unbound_below
unbound-push zero bs b h c = absurd (omega arith)
unbound-push (suc n) bs b h c =
    elim (test_cases n b.id) [
      | inl e ↦
          let was : bound_in n bs ≡ false = rw e.0 c in
          let is : bound_in n (bs ++ b ∷ []) ≡ true = bound_in-push n bs b ∙ rw (was, e.1) refl in
          rw (was, is) (omega (arith, unbound-le n bs b))
      | inr e ↦
          let ne : n ≡ b.id → ⊥ = λ p. true≢false (sym (eq-eqb n b.id p) ∙ e) in
          let lt : b.id < n = omega arith in
          rw bound_in-push (omega (arith, one_unless-le (bound_in n bs) (nat_eq n b.id), unbound-push n bs b lt c))
    ]

-- ---- pairs under one more binding

AllEqual-binds : (s : Assignment) (cs : List Cell) (es : List (ℕ × ℕ)) (x n : ℕ) (ps : List (ℕ × ℕ))
    → Equals s (var x) (seen cs es n) → AllEqual s (seen cs es) ps → AllEqual s (seen cs (es ++ (x, n) ∷ [])) ps
AllEqual-binds s cs es x n [] e h = tt
AllEqual-binds s cs es x n (p ∷ ps) e h = (
  ap (λ t. bare (applied s t)) (seen-binds cs es x n p.0) ∙ applied-replaced s x (seen cs es n) (seen cs es p.0) e ∙ h.0
      ∙ sym (ap (λ t. bare (applied s t)) (seen-binds cs es x n p.1)
      ∙ applied-replaced s x (seen cs es n) (seen cs es p.1) e),
  AllEqual-binds s cs es x n ps e h.1,
)

AllEqual-unbinds : (s : Assignment) (cs : List Cell) (es : List (ℕ × ℕ)) (x n : ℕ) (ps : List (ℕ × ℕ))
    → Equals s (var x) (seen cs es n) → AllEqual s (seen cs (es ++ (x, n) ∷ [])) ps → AllEqual s (seen cs es) ps
AllEqual-unbinds s cs es x n [] e h = tt
AllEqual-unbinds s cs es x n (p ∷ ps) e h = (
  sym (ap (λ t. bare (applied s t)) (seen-binds cs es x n p.0) ∙ applied-replaced s x (seen cs es n) (seen cs es p.0) e)
      ∙ h.0
      ∙ ap (λ t. bare (applied s t)) (seen-binds cs es x n p.1)
      ∙ applied-replaced s x (seen cs es n) (seen cs es p.1) e,
  AllEqual-unbinds s cs es x n ps e h.1,
)

EveryPair-binds : (p : ℕ → Bool) (q : _) (cs : List Cell) (es : List (ℕ × ℕ)) (x n : ℕ) (ps : List (ℕ × ℕ))
    → Every p q (seen cs es n) → EveryPair p q (seen cs es) ps → EveryPair p q (seen cs (es ++ (x, n) ∷ [])) ps
EveryPair-binds p q cs es x n [] u h = tt
EveryPair-binds p q cs es x n (e ∷ ps) u h = (
  subst (Every p q) (sym (seen-binds cs es x n e.0)) (Every-replaced p q x (seen cs es n) (seen cs es e.0) u h.0),
  subst (Every p q) (sym (seen-binds cs es x n e.1)) (Every-replaced p q x (seen cs es n) (seen cs es e.1) u h.1),
  EveryPair-binds p q cs es x n ps u h.2,
)

-- ---- between two bindings

-- a solution of the bindings so far that makes the pairs left equal is one of the old bindings that makes the two types
-- equal
pub record Reached (cs : List Cell) (first es stack : List (ℕ × ℕ)) (a b : ℕ) : Type 0 where
  pub stands : IsTable cs es
  pub grows : Grows first es
  pub tail : (more : List Bound) × (bounds cs es ≡ bounds cs first ++ more)
  pub within : AllWithin (length cs) stack
  pub keeps : (s : Assignment) → Solves s (bounds cs es) → Solves s (bounds cs first)
  pub pending : (s : Assignment) → Solves s (bounds cs es) → AllEqual s (seen cs es) stack
      → Equals s (at (trees cs) a) (at (trees cs) b)
  pub all : (s : Assignment) → Solves s (bounds cs first) → Equals s (at (trees cs) a) (at (trees cs) b)
      → Solves s (bounds cs es) × AllEqual s (seen cs es) stack
  pub closed : (p : ℕ → Bool) (q : Head → Bool) → EveryBound p q (bounds cs first) → Every p q (at (trees cs) a)
      → Every p q (at (trees cs) b) → EveryBound p q (bounds cs es) × EveryPair p q (seen cs es) stack

seen-equals : (cs : List Cell) (es : List (ℕ × ℕ)) (s : Assignment) (i : ℕ) → Solves s (bounds cs es)
    → Equals s (seen cs es i) (at (trees cs) i)
unfolding seen
seen-equals cs es s i h = applied-resolved s (bounds cs es) (at (trees cs) i) h

seen-every : (cs : List Cell) (es : List (ℕ × ℕ)) (p : ℕ → Bool) (q : _) (i : ℕ) → EveryBound p q (bounds cs es)
    → Every p q (at (trees cs) i) → Every p q (seen cs es i)
unfolding seen
seen-every cs es p q i b h = Every-resolved p q (bounds cs es) (at (trees cs) i) b h

started : (cs : List Cell) (es : List (ℕ × ℕ)) (a b : ℕ) → IsTable cs es → a < length cs → b < length cs
    → Reached cs es es ((a, b) ∷ []) a b
started cs es a b h la lb = record {
  stands = h;
  grows = ([], sym (append-nil es));
  tail = ([], sym (append-nil (bounds cs es)));
  within = (la, lb, tt);
  keeps = λ s k. k;
  pending = λ s k e. sym (seen-equals cs es s a k) ∙ e.0 ∙ seen-equals cs es s b k;
  all = λ s k e. (k, (seen-equals cs es s a k ∙ e ∙ sym (seen-equals cs es s b k), tt));
  closed = λ p q k x y. (k, (seen-every cs es p q a k x, seen-every cs es p q b k y, tt));
}

pub Reached-start : (cs : List Cell) (es stack : List (ℕ × ℕ)) (a b : ℕ) → IsTable cs es → a < length cs → b < length cs
    → stack ≡ (a, b) ∷ [] → Reached cs es es stack a b
Reached-start cs es stack a b h la lb e = subst (λ ps. Reached cs es es ps a b) (sym e) (started cs es a b h la lb)

Binds-free : (cs : List Cell) (es : List (ℕ × ℕ)) (x n : ℕ) → Free cs es x n → occurs_in x (seen cs es n) ≡ false
    → Binds cs es x n
Binds-free cs es x n f o = record { within = f.within; free = f.free; ends = f.ends; absent = o }

bound : (cs : List Cell) (first es stack rest : List (ℕ × ℕ)) (a b x n : ℕ) → Reached cs first es stack a b
    → Asks cs es stack rest x n → occurs_in x (seen cs es n) ≡ false → Reached cs first (es ++ (x, n) ∷ []) rest a b
bound cs first es stack rest a b x n r k o =
    let next = es ++ (x, n) ∷ [] in
    let last : Bound = record { id = x; term = seen cs es n } in
    let is = bounds-push cs es x n in
    record {
      stands = IsTable-bind cs es x n r.stands (Binds-free cs es x n k.free o);
      grows = (
        r.grows.0 ++ (x, n) ∷ [],
        ap (λ l. l ++ (x, n) ∷ []) r.grows.1
            ∙ append_assoc first r.grows.0 ((x, n) ∷ []),
      );
      tail = (
        r.tail.0 ++ last ∷ [],
        is ∙ ap (λ l. l ++ last ∷ []) r.tail.1
            ∙ append_assoc (bounds cs first) r.tail.0 (last ∷ []),
      );
      within = k.within r.within;
      keeps = λ s h. r.keeps s (Solves-front s (bounds cs es) (last ∷ []) (subst (Solves s) is h));
      pending = λ s h e.
          let h' = subst (Solves s) is h in
          let old = Solves-front s (bounds cs es) (last ∷ []) h' in
          let eq = Solves-last s (bounds cs es) last h' in
          r.pending s old ((k.same s).1 (eq, AllEqual-unbinds s cs es x n rest eq e));
      all = λ s h e.
          let old = r.all s h e in
          let new = (k.same s).0 old.1 in (
            subst (Solves s) (sym is) (Solves-push s (bounds cs es) last old.0 new.0),
            AllEqual-binds s cs es x n rest new.0 new.1,
          );
      closed = λ p q h y z.
          let old = r.closed p q h y z in
          let new = k.closed p q old.1 in (
            subst (EveryBound p q) (sym is) (EveryBound-push p q (bounds cs es) last old.0 new.0 new.1),
            EveryPair-binds p q cs es x n rest new.1 new.2,
          );
    }

pub Reached-bind : (cs : List Cell) (first es stack rest next : List (ℕ × ℕ)) (a b x n : ℕ) (o : Bool)
    → Reached cs first es stack a b → Asks cs es stack rest x n → o ≡ occurs_in x (seen cs es n) → o ≡ false
    → next ≡ es ++ (x, n) ∷ [] → Reached cs first next rest a b
Reached-bind cs first es stack rest next a b x n o r k e f g =
    subst (λ l. Reached cs first l rest a b) (sym g) (bound cs first es stack rest a b x n r k (sym e ∙ f))

-- one fewer unknown is free
pub unbound-bind : (cs : List Cell) (es stack rest next : List (ℕ × ℕ)) (x n m : ℕ) → m ≡ 2 ^ 64
    → Asks cs es stack rest x n → next ≡ es ++ (x, n) ∷ []
    → unbound_below m (bounds cs next) < unbound_below m (bounds cs es)
unfolding hops
unbound-bind cs es stack rest next x n m e k g =
    let last : Bound = record { id = x; term = seen cs es n } in
    rw g (rw bounds-push (unbound-push m (bounds cs es) last (rw e k.free.in_range)
    (free_unbound (bounds cs es) x k.free.free)))

-- an unknown that is free has no entry
pub no_entry : (cs : List Cell) (es stack rest : List (ℕ × ℕ)) (x n : ℕ) → IsTable cs es → Asks cs es stack rest x n
    → lookup (nat_eq x) es ≡ None
no_entry cs es stack rest x n h k = go (lookup (nat_eq x) es) refl
  where
    go : (r : Option ℕ) → lookup (nat_eq x) es ≡ r → r ≡ None
    go None e = refl
    go (Some m) e = absurd (omega (arith, (h.holds x m e).nearer, k.free.free))

pub Solved-done : (cs : List Cell) (first es stack : List (ℕ × ℕ)) (a b : ℕ) → Reached cs first es stack a b
    → ((s : Assignment) → AllEqual s (seen cs es) stack) → Solved cs first es a b
Solved-done cs first es stack a b r k = record {
  stands = r.stands;
  keeps = r.keeps;
  equal = λ s h. r.pending s h (k s);
  all = λ s h e. (r.all s h e).0;
  tail = r.tail;
  closed = λ p q h x y. (r.closed p q h x y).0;
}

pub NotSolvable-refused : (cs : List Cell) (first es stack : List (ℕ × ℕ)) (a b : ℕ) → Reached cs first es stack a b
    → HaveNoSolution (seen cs es) stack → NotSolvable (bounds cs first) (at (trees cs) a) (at (trees cs) b)
NotSolvable-refused cs first es stack a b r n s h e = n s (r.all s h e).1

pub NotSolvable-occurs : (cs : List Cell) (first es stack rest : List (ℕ × ℕ)) (a b x n : ℕ) (o : Bool)
    → Reached cs first es stack a b → Asks cs es stack rest x n → o ≡ occurs_in x (seen cs es n) → o ≡ true
    → NotSolvable (bounds cs first) (at (trees cs) a) (at (trees cs) b)
NotSolvable-occurs cs first es stack rest a b x n o r k e f s h q =
    occurs_unsolvable s x (seen cs es n) (sym e ∙ f) k.free.other ((k.same s).0 (r.all s h q).1).0
