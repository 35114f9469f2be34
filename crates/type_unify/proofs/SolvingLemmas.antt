-- Laws of substitutions and of their solutions.
use Rattle.std.proofs.Common.{◌≡◌, ℕ, ◌+◌, ◌≤◌, Bool, true, false, ◌||◌, List, [], ◌∷◌, ◌++◌, ◌⊎◌, inl, inr, refl, sym}
use Rattle.std.proofs.Common.{ap, ap₂, ◌∙◌, arith, eqb-true, eq-eqb, true≢false}
use Rattle.std.specs.Prelude.{nat_eq}
use Rattle.std.proofs.lemmas.Bool.{or_cases, or_parts, or_from}
use Rattle.type_terms.specs.Terms.{var, con, app, applied, occurs_in, replaced, Every}
use Rattle.type_unify.specs.Types.{Plain, rigid, bare, Same, Equals, Assignment, Bound, Solves, resolved, Absent}
use Rattle.type_unify.specs.Types.{IsTriangular, Clear, EveryBound, named}
use Rattle.type_unify.specs.Steps.{size}

-- a test and what it says, at either value
pub test_cases : (x i : ℕ) → (x ≡ i) × (nat_eq x i ≡ true) ⊎ (nat_eq x i ≡ false)
test_cases x i = go (nat_eq x i) refl
  where
    go : (b : Bool) → nat_eq x i ≡ b → (x ≡ i) × (nat_eq x i ≡ true) ⊎ (nat_eq x i ≡ false)
    go true e = inl (eqb-true x i e, e)
    go false e = inr e

-- a solution of a binding doesn't see whether it was applied
pub applied-replaced : (s : Assignment) (x : ℕ) (u t : Plain) → Equals s (var x) u → Equals s (replaced x u t) t
applied-replaced s x u (var i) e =
    elim (test_cases x i) [ inl p ↦ rw p.1 (sym e ∙ ap (λ y. bare (s y)) p.0) | inr p ↦ rw p ]
applied-replaced s x u (con h) e = refl
applied-replaced s x u (app f a) e = ap₂ app (applied-replaced s x u f e) (applied-replaced s x u a e)

-- nor whether all bindings were applied
pub applied-resolved : (s : Assignment) (bs : List Bound) (t : Plain) → Solves s bs → Equals s (resolved bs t) t
applied-resolved s [] t h = refl
applied-resolved s (b ∷ bs) t h =
    applied-resolved s bs (replaced b.id b.term t) h.1 ∙ applied-replaced s b.id b.term t h.0

-- a type without the unknown stays
pub replaced_absent : (x : ℕ) (u t : Plain) → occurs_in x t ≡ false → replaced x u t ≡ t
replaced_absent x u (var i) e = rw e
replaced_absent x u (con h) e = refl
replaced_absent x u (app f a) e =
    let p = or_parts (occurs_in x f) (occurs_in x a) e in
    ap₂ app (replaced_absent x u f p.0) (replaced_absent x u a p.1)

-- an unknown that is in neither type is not in the type with the other put in
pub occurs_in-replaced : (y x : ℕ) (u t : Plain) → occurs_in y u ≡ false → occurs_in y t ≡ false
    → occurs_in y (replaced x u t) ≡ false
occurs_in-replaced y x u (var i) p q =
    elim (test_cases x i) [ inl e ↦ rw e.1 p | inr e ↦ rw e q ]
occurs_in-replaced y x u (con h) p q = refl
occurs_in-replaced y x u (app f a) p q =
    let r = or_parts (occurs_in y f) (occurs_in y a) q in
    or_from _ _ (occurs_in-replaced y x u f p r.0) (occurs_in-replaced y x u a p r.1)

-- the unknown itself is gone
pub occurs_in-replaced_same : (x : ℕ) (u t : Plain) → occurs_in x u ≡ false → occurs_in x (replaced x u t) ≡ false
occurs_in-replaced_same x u (var i) p =
    elim (test_cases x i) [ inl e ↦ rw e.1 p | inr e ↦ rw e e ]
occurs_in-replaced_same x u (con h) p = refl
occurs_in-replaced_same x u (app f a) p =
    or_from _ _ (occurs_in-replaced_same x u f p) (occurs_in-replaced_same x u a p)

pub occurs_in-resolved : (y : ℕ) (bs : List Bound) (t : Plain) → Absent y bs → occurs_in y t ≡ false
    → occurs_in y (resolved bs t) ≡ false
occurs_in-resolved y [] t h p = p
occurs_in-resolved y (b ∷ bs) t h p =
    let q = or_parts (nat_eq y b.id) (occurs_in y b.term) h.0 in
    occurs_in-resolved y bs (replaced b.id b.term t) h.1 (occurs_in-replaced y b.id b.term t q.1 p)

-- no bound unknown is left
pub Clear-resolved : (bs : List Bound) (t : Plain) → IsTriangular bs → Clear bs (resolved bs t)
Clear-resolved [] t h = tt
Clear-resolved (b ∷ bs) t h = (
  occurs_in-resolved b.id bs (replaced b.id b.term t) h.1 (occurs_in-replaced_same b.id b.term t h.0),
  Clear-resolved bs (replaced b.id b.term t) h.2,
)

pub Clear-app : (bs : List Bound) (f a : Plain) → Clear bs f → Clear bs a → Clear bs (app f a)
Clear-app [] f a p q = tt
Clear-app (b ∷ bs) f a p q = (or_from _ _ p.0 q.0, Clear-app bs f a p.1 q.1)

pub Absent-push : (x : ℕ) (bs : List Bound) (b : Bound) → Absent x bs → occurs_in x (app (var b.id) b.term) ≡ false
    → Absent x (bs ++ b ∷ [])
Absent-push x [] b h p = (p, tt)
Absent-push x (c ∷ bs) b h p = (h.0, Absent-push x bs b h.1 p)

-- one more binding, of an unknown that is free so far to a type that has only free ones
pub IsTriangular-push : (bs : List Bound) (b : Bound) → IsTriangular bs → Clear bs (app (var b.id) b.term)
    → occurs_in b.id b.term ≡ false → IsTriangular (bs ++ b ∷ [])
IsTriangular-push [] b h c o = (o, tt, tt)
IsTriangular-push (e ∷ bs) b h c o = (h.0, Absent-push e.id bs b h.1 c.0, IsTriangular-push bs b h.2 c.1 o)

pub Solves-push : (s : Assignment) (bs : List Bound) (b : Bound) → Solves s bs → Equals s (var b.id) b.term
    → Solves s (bs ++ b ∷ [])
Solves-push s [] b h e = (e, tt)
Solves-push s (c ∷ bs) b h e = (h.0, Solves-push s bs b h.1 e)

pub Solves-front : (s : Assignment) (bs more : List Bound) → Solves s (bs ++ more) → Solves s bs
Solves-front s [] more h = tt
Solves-front s (b ∷ bs) more h = (h.0, Solves-front s bs more h.1)

pub Solves-last : (s : Assignment) (bs : List Bound) (b : Bound) → Solves s (bs ++ b ∷ []) → Equals s (var b.id) b.term
Solves-last s [] b h = h.0
Solves-last s (c ∷ bs) b h = Solves-last s bs b h.1

pub resolved-push : (bs : List Bound) (b : Bound) (t : Plain)
    → resolved (bs ++ b ∷ []) t ≡ replaced b.id b.term (resolved bs t)
resolved-push [] b t = refl
resolved-push (c ∷ bs) b t = resolved-push bs b (replaced c.id c.term t)

-- what the bindings say of each unknown
abbrev pub solution : List Bound → Assignment
solution bs = λ x. resolved bs (var x)

pub resolved-app : (bs : List Bound) (f a : Plain) → resolved bs (app f a) ≡ app (resolved bs f) (resolved bs a)
resolved-app [] f a = refl
resolved-app (b ∷ bs) f a = resolved-app bs (replaced b.id b.term f) (replaced b.id b.term a)

pub resolved-rigid : (bs : List Bound) (i : ℕ) → resolved bs (con (rigid i)) ≡ con (rigid i)
resolved-rigid [] i = refl
resolved-rigid (b ∷ bs) i = resolved-rigid bs i

pub resolved-con : (bs : List Bound) (n : _) (k : _) → resolved bs (con (named n k)) ≡ con (named n k)
resolved-con [] n k = refl
resolved-con (b ∷ bs) n k = resolved-con bs n k

pub applied-solution : (bs : List Bound) (t : Plain) → applied (solution bs) t ≡ resolved bs t
applied-solution bs (var i) = refl
applied-solution bs (con (rigid i)) = sym (resolved-rigid bs i)
applied-solution bs (con (named n k)) = sym (resolved-con bs n k)
applied-solution bs (app f a) = ap₂ app (applied-solution bs f) (applied-solution bs a) ∙ sym (resolved-app bs f a)

-- two assignments that agree on every type without x solve the same bindings without x
Solves-agree : (x : ℕ) (s s' : Assignment) (bs : List Bound) → Absent x bs
    → ((t : Plain) → occurs_in x t ≡ false → applied s' t ≡ applied s t) → Solves s bs → Solves s' bs
Solves-agree x s s' [] a f h = tt
Solves-agree x s s' (b ∷ bs) a f h =
    let p = or_parts (nat_eq x b.id) (occurs_in x b.term) a.0 in
    (ap bare (f (var b.id) p.0) ∙ h.0 ∙ sym (ap bare (f b.term p.1)), Solves-agree x s s' bs a.1 f h.1)

-- the bindings have a solution
pub Solves-solution : (bs : List Bound) → IsTriangular bs → Solves (solution bs) bs
Solves-solution [] h = tt
Solves-solution (b ∷ bs) h =
    let here : resolved bs (replaced b.id b.term (var b.id)) ≡ resolved bs b.term = rw (eq-eqb b.id b.id refl) refl in
    let there : applied (solution (b ∷ bs)) b.term ≡ resolved bs b.term =
    applied-solution (b ∷ bs) b.term ∙ ap (resolved bs) (replaced_absent b.id b.term b.term h.0) in
    let agree = λ (t : Plain) (o : occurs_in b.id t ≡ false).
    applied-solution (b ∷ bs) t ∙ ap (resolved bs) (replaced_absent b.id b.term t o) ∙ sym (applied-solution bs t) in (
      ap bare (here ∙ sym there),
      Solves-agree b.id (solution bs) (solution (b ∷ bs)) bs h.1 agree
          (Solves-solution bs h.2),
    )

pub size-bare : (t : Plain) → size (bare t) ≡ size t
size-bare (var i) = refl
size-bare (con h) = refl
size-bare (app f a) = rw (size-bare f, size-bare a) refl

pub size-same : (t u : Plain) → Same t u → size t ≡ size u
size-same t u e = sym (size-bare t) ∙ ap size e ∙ size-bare u

size-occurs : (s : Assignment) (x : ℕ) (u : Plain) → occurs_in x u ≡ true → size (s x) ≤ size (applied s u)
size-occurs s x (var i) h = let e : s i ≡ s x = ap s (sym (eqb-true x i h)) in rw e (omega arith)
size-occurs s x (con c) h = absurd (true≢false (sym h))
size-occurs s x (app f a) h =
    elim (or_cases (occurs_in x f) (occurs_in x a) h) [
      | inl p ↦ omega (arith, size-occurs s x f p)
      | inr p ↦ omega (arith, size-occurs s x a p)
    ]

-- an unknown is no larger type in which it occurs
pub occurs_unsolvable : (s : Assignment) (x : ℕ) (u : Plain) → occurs_in x u ≡ true → (u ≡ var x → ⊥)
    → Equals s (var x) u → ⊥
occurs_unsolvable s x (var i) h n e = n (ap var (sym (eqb-true x i h)))
occurs_unsolvable s x (con c) h n e = true≢false (sym h)
occurs_unsolvable s x (app f a) h n e =
    let l : size (s x) ≡ size (applied s f) + size (applied s a) + 1 =
    size-same (s x) (app (applied s f) (applied s a)) e in
    elim (or_cases (occurs_in x f) (occurs_in x a) h) [
      | inl p ↦ omega (arith, l, size-occurs s x f p)
      | inr p ↦ omega (arith, l, size-occurs s x a p)
    ]

pub Every-replaced : (p : ℕ → Bool) (q : _) (x : ℕ) (u t : Plain) → Every p q u → Every p q t
    → Every p q (replaced x u t)
Every-replaced p q x u (var i) e h = elim (test_cases x i) [ inl c ↦ rw c.1 e | inr c ↦ rw c h ]
Every-replaced p q x u (con c) e h = h
Every-replaced p q x u (app f a) e h = (Every-replaced p q x u f e h.0, Every-replaced p q x u a e h.1)

pub Every-resolved : (p : ℕ → Bool) (q : _) (bs : List Bound) (t : Plain) → EveryBound p q bs → Every p q t
    → Every p q (resolved bs t)
Every-resolved p q [] t b h = h
Every-resolved p q (b ∷ bs) t e h = Every-resolved p q bs (replaced b.id b.term t) e.2
    (Every-replaced p q b.id b.term t e.1 h)

pub EveryBound-push : (p : ℕ → Bool) (q : _) (bs : List Bound) (b : Bound) → EveryBound p q bs → p b.id ≡ true
    → Every p q b.term → EveryBound p q (bs ++ b ∷ [])
EveryBound-push p q [] b h i t = (i, t, tt)
EveryBound-push p q (c ∷ bs) b h i t = (h.0, h.1, EveryBound-push p q bs b h.2 i t)
