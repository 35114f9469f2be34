-- The ends of edges, listed edge by edge.
use Rattle.std.proofs.Common.{◌≡◌, ◌≢◌, ℕ, zero, suc, ◌+◌, ◌<◌, ◌≤◌, Bool, true, false, cond, nat_eq, List, [], ◌∷◌}
use Rattle.std.proofs.Common.{◌++◌, length, map, get_or, set, take, inl, inr, refl, ap, sym, ◌∙◌, arith}
use Rattle.std.proofs.Math.Seq.{set-append_seam}
use Rattle.std.proofs.lemmas.List.{map-set, set-append_left, take_more, replicate-append-replicate}
use Rattle.std.proofs.lemmas.Bool.{eqb-true, eq-eqb}
use Rattle.std.specs.Prelude.{replicate}
use Rattle.bp_base.specs.Lists.{Among}
use Rattle.hole_unify.specs.declared.edge.Edge.{Edge}
use Rattle.hole_unify.specs.Reach.{ends_of, ends_upto}
use Rattle.hole_unify.proofs.SearchingLemmas.{upto-length, upto-at, item-ends}

-- no edges, no ends
pub upto-none : (n : ℕ) → replicate n [] ≡ ends_upto n []
upto-none zero = refl
upto-none (suc n) =
    let one : n + 1 ≡ suc n = omega arith in
    sym (replicate-append-replicate n 1 [] ∙ ap (λ k. replicate k []) one) ∙ ap (λ l. l ++ [] ∷ []) (upto-none n)

-- ---- one edge more

of-same : (k : ℕ) (es : List Edge) (e : Edge) → e.from ≡ k → ends_of k (es ++ e ∷ []) ≡ ends_of k es ++ e.to ∷ []
of-same k [] e is = ap (λ b. cond b (e.to ∷ []) []) (eq-eqb e.from k is)
of-same k (x ∷ es) e is = by (nat_eq x.from k) (of-same k es e is)
  where
    by : (b : Bool) → ends_of k (es ++ e ∷ []) ≡ ends_of k es ++ e.to ∷ []
        → cond b (x.to ∷ ends_of k (es ++ e ∷ [])) (ends_of k (es ++ e ∷ [])) ≡ cond b (x.to ∷ ends_of k es)
        (ends_of k es) ++ e.to ∷ []
    by true r = ap (λ l. x.to ∷ l) r
    by false r = r

unequal : (k n : ℕ) → k ≢ n → nat_eq k n ≡ false
unequal k n d = by (nat_eq k n) refl
  where
    by : (b : Bool) → nat_eq k n ≡ b → nat_eq k n ≡ false
    by true e = absurd (d (eqb-true k n e))
    by false e = e

of-other : (k : ℕ) (es : List Edge) (e : Edge) → e.from ≢ k → ends_of k (es ++ e ∷ []) ≡ ends_of k es
of-other k [] e d = ap (λ b. cond b (e.to ∷ []) []) (unequal e.from k d)
of-other k (x ∷ es) e d = by (nat_eq x.from k) (of-other k es e d)
  where
    by : (b : Bool) → ends_of k (es ++ e ∷ []) ≡ ends_of k es
        → cond b (x.to ∷ ends_of k (es ++ e ∷ [])) (ends_of k (es ++ e ∷ [])) ≡ cond b (x.to ∷ ends_of k es)
        (ends_of k es)
    by true r = ap (λ l. x.to ∷ l) r
    by false r = r

upto-same : (n : ℕ) (es : List Edge) (e : Edge) → n ≤ e.from → ends_upto n (es ++ e ∷ []) ≡ ends_upto n es
upto-same zero es e le = refl
upto-same (suc n) es e le =
    let apart : e.from ≢ n = (λ q. omega (arith, le, q)) in
    λ w. upto-same n es e (omega (arith, le)) w ++ of-other n es e apart w ∷ []

upto-pushed : (n : ℕ) (es : List Edge) (e : Edge) → e.from < n
    → set (ends_upto n es) e.from (ends_of e.from es ++ e.to ∷ []) ≡ ends_upto n (es ++ e ∷ [])
upto-pushed zero es e lt = absurd (omega (arith, lt))
upto-pushed (suc n) es e lt = by (nat_eq e.from n) refl (upto-pushed n es e)
  where
    last : e.from ≡ n → set (ends_upto n es ++ ends_of n es ∷ []) e.from (ends_of e.from es ++ e.to ∷ []) ≡ ends_upto n
        (es ++ e ∷ []) ++ ends_of n (es ++ e ∷ []) ∷ []
    last is =
        ap (λ k. set (ends_upto n es ++ ends_of n es ∷ []) k (ends_of e.from es ++ e.to ∷ [])) (is
        ∙ sym (upto-length n es))
        ∙ set-append_seam (ends_upto n es) (ends_of n es) [] (ends_of e.from es ++ e.to ∷ [])
        ∙ (λ w. sym (upto-same n es e (omega (arith, is))) w ++ (ap (λ k. ends_of k es ++ e.to ∷ []) is
        ∙ sym (of-same n es e is)) w ∷ [])

    before : (e.from ≢ n) → (e.from < n → set (ends_upto n es) e.from (ends_of e.from es ++ e.to ∷ []) ≡ ends_upto n
        (es ++ e ∷ [])) → set (ends_upto n es ++ ends_of n es ∷ []) e.from
        (ends_of e.from es ++ e.to ∷ []) ≡ ends_upto n (es ++ e ∷ []) ++ ends_of n (es ++ e ∷ []) ∷ []
    before d r =
        set-append_left (ends_upto n es) (ends_of n es ∷ []) e.from (ends_of e.from es ++ e.to ∷ []) (let s =
        upto-length n es in omega (arith, s, d, lt))
        ∙ (λ w. r (omega (arith, d, lt)) w ++ sym (of-other n es e d) w ∷ [])

    by : (b : Bool) → nat_eq e.from n ≡ b → (e.from < n
        → set (ends_upto n es) e.from (ends_of e.from es ++ e.to ∷ []) ≡ ends_upto n (es ++ e ∷ []))
        → set (ends_upto (suc n) es) e.from (ends_of e.from es ++ e.to ∷ []) ≡ ends_upto (suc n) (es ++ e ∷ [])
    by true d r = last (eqb-true e.from n d)
    by false d r = before (λ q. let f : true ≡ false = sym (eq-eqb e.from n q) ∙ d in cc) r

-- ---- the loop over the edges

pub edge-at : (edges : List Edge) (n i : ℕ) (d : Edge) → ((e : Edge) → Among e edges → e.from < n) → i < length edges
    → (get_or edges i d).from < n
edge-at [] n i d below lt = absurd (omega (arith, lt))
edge-at (x ∷ edges) n zero d below lt = below x (inl refl)
edge-at (x ∷ edges) n (suc i) d below lt = edge-at edges n i d (λ e a. below e (inr a)) (omega (arith, lt))

pub ends-pushed : {A : Type 0} (f : A → List ℕ) (l : List A) (old new : A) (n : ℕ) (edges : List Edge) (i : ℕ)
    (d : Edge) → i < length edges → (get_or edges i d).from < n → map f l ≡ ends_upto n (take i edges)
    → old ≡ get_or l (get_or edges i d).from old → f new ≡ f old ++ (get_or edges i d).to ∷ []
    → map f (set l (get_or edges i d).from new) ≡ ends_upto n (take (i + 1) edges)
ends-pushed f l old new n edges i d lt below is at made =
    map-set f l (get_or edges i d).from new
    ∙ (λ w. set (is w) (get_or edges i d).from ((made ∙ ap (λ z. z ++ (get_or edges i d).to ∷ []) here) w))
    ∙ upto-pushed n (take i edges) (get_or edges i d) below
    ∙ ap (ends_upto n) (sym (take_more edges i d lt))
  where
    here : f old ≡ ends_of (get_or edges i d).from (take i edges)
    here = item-ends f l (get_or edges i d).from old at ∙ ap (λ z. get_or z (get_or edges i d).from (f old)) is
        ∙ upto-at n (take i edges) (get_or edges i d).from (f old) below
