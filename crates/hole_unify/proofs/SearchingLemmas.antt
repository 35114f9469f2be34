-- Which classes a search finds: those that a class reaches.
use Rattle.std.proofs.Common.{◌≡◌, ◌≢◌, ℕ, zero, suc, ◌+◌, ◌<◌, ◌≤◌, Bool, true, false, ◌||◌, cond, nat_eq, List, []}
use Rattle.std.proofs.Common.{◌∷◌, ◌++◌, length, map, get_or, set, take, drop, ◌⊎◌, inl, inr, refl, ap, sym, ◌∙◌, subst}
use Rattle.std.proofs.Common.{arith, length-append}
use Rattle.std.proofs.Math.ListN.{get_or-append, get_or-map}
use Rattle.std.proofs.Math.Seq.{get_or-append_seam}
use Rattle.std.proofs.lemmas.List.{take_more, take_all, take-append-le, get_or-set_same, get_or-set_other, length-set}
use Rattle.std.proofs.lemmas.List.{length-map}
use Rattle.std.proofs.lemmas.Bool.{eqb-true, eq-eqb}
use Rattle.std.specs.Prelude.{Option, Some, slice_get, replicate}
use Rattle.bp_base.proofs.SetLemmas.{among-left, among-right, among-either}
use Rattle.bp_base.specs.Texts.{Text}
use Rattle.bp_base.specs.declared.ident.Ident.{Ident}
use Rattle.hole_unify.specs.Table.{nodes_of}
use Rattle.bp_base.specs.Lists.{Among}
use Rattle.hole_unify.specs.declared.edge.Edge.{Edge}
use Rattle.hole_unify.specs.Reach.{ends_of, ends_upto, free, AreBelow, Agree, visited, all_visited, IsReached, holds}
use Rattle.hole_unify.specs.Reach.{on_cycle, lesser, least_from, term_cycle, hole_cycle}
use Rattle.hole_unify.proofs.TableLemmas.{Among-get_or, Among-read}
use Rattle.hole_unify.proofs.EdgeLemmas.{nodes-front, nodes-end}
use Rattle.hole_unify.proofs.ReachingLemmas.{Path, First, Then, holds-says, holds-has, path-cycle, cycle-path}

-- ---- the ends of edges

ends-has : (k : ℕ) (es : List Edge) (e : Edge) → Among e es → e.from ≡ k → Among e.to (ends_of k es)
ends-has k [] e h is = absurd h
ends-has k (x ∷ es) e (inl i) is = by (nat_eq x.from k) refl
  where
    by : (b : Bool) → nat_eq x.from k ≡ b → Among e.to (cond b (x.to ∷ ends_of k es) (ends_of k es))
    by true d = inl (ap (λ z. z.to) i)
    by false d = let p : nat_eq x.from k ≡ true = eq-eqb x.from k (ap (λ z. z.from) i ∙ is) in
        let f : true ≡ false = sym p ∙ d in cc
ends-has k (x ∷ es) e (inr h) is = by (nat_eq x.from k) (ends-has k es e h is)
  where
    by : (b : Bool) → Among e.to (ends_of k es) → Among e.to (cond b (x.to ∷ ends_of k es) (ends_of k es))
    by true r = inr r
    by false r = r

-- an edge from a class to another one
record IsStep (es : List Edge) (k n : ℕ) : Type 0 where
  edge : Edge
  among : Among edge es
  from : edge.from ≡ k
  to : edge.to ≡ n

ends-say : (k : ℕ) (es : List Edge) (n : ℕ) → Among n (ends_of k es) → IsStep es k n
ends-say k [] n h = absurd h
ends-say k (x ∷ es) n h = by (nat_eq x.from k) refl h (λ g. more (ends-say k es n g))
  where
    more : IsStep es k n → IsStep (x ∷ es) k n
    more s = record { edge = s.edge; among = inr s.among; from = s.from; to = s.to }

    by : (b : Bool) → nat_eq x.from k ≡ b → Among n (cond b (x.to ∷ ends_of k es) (ends_of k es))
        → (Among n (ends_of k es) → IsStep (x ∷ es) k n) → IsStep (x ∷ es) k n
    by true d (inl i) r = record { edge = x; among = inl refl; from = eqb-true x.from k d; to = i }
    by true d (inr g) r = r g
    by false d g r = r g

pub upto-length : (n : ℕ) (es : List Edge) → length (ends_upto n es) ≡ n
upto-length zero es = refl
upto-length (suc n) es = let s = length-append (ends_upto n es) (ends_of n es ∷ []) in let r = upto-length n es in
    omega (arith, s, r)

pub upto-at : (n : ℕ) (es : List Edge) (i : ℕ) (d : List ℕ) → i < n → get_or (ends_upto n es) i d ≡ ends_of i es
upto-at zero es i d lt = absurd (omega (arith, lt))
upto-at (suc n) es i d lt = by (nat_eq i n) refl (upto-at n es i d)
  where
    by : (b : Bool) → nat_eq i n ≡ b → (i < n → get_or (ends_upto n es) i d ≡ ends_of i es)
        → get_or (ends_upto n es ++ ends_of n es ∷ []) i d ≡ ends_of i es
    by true e r =
        let is : i ≡ n = eqb-true i n e in
        ap (λ z. get_or (ends_upto n es ++ ends_of n es ∷ []) z d) (is ∙ sym (upto-length n es))
        ∙ get_or-append_seam (ends_upto n es) (ends_of n es) [] d ∙ ap (λ z. ends_of z es) (sym is)
    by false e r =
        let apart : i ≢ n = (λ q. let f : true ≡ false = sym (eq-eqb i n q) ∙ e in cc) in
        let less : i < n = omega (arith, lt, apart) in
        get_or-append (ends_upto n es) (ends_of n es ∷ []) d i (let l = upto-length n es in omega (arith, l, less))
        ∙ r less

-- the list of a class
ends-at : (lists : List (List ℕ)) (es : List Edge) (i : ℕ) (ks : List ℕ) → lists ≡ ends_upto (length lists) es
    → i < length lists → ks ≡ get_or lists i ks → ks ≡ ends_of i es
ends-at lists es i ks is lt at = at ∙ ap (λ l. get_or l i ks) is ∙ upto-at (length lists) es i ks lt

pub item-ends : {A : Type 0} (f : A → List ℕ) (l : List A) (i : ℕ) (x : A) → x ≡ get_or l i x
    → f x ≡ get_or (map f l) i (f x)
item-ends f l i x is = ap f is ∙ sym (get_or-map f l i x)

-- edges to classes below a number
upto-below : (n c : ℕ) (es : List Edge) → ((e : Edge) → Among e es → e.to < c) → AreBelow c (ends_upto n es)
upto-below zero c es below ks h k a = absurd h
upto-below (suc n) c es below ks h k a = elim (among-either ks (ends_upto n es) (ends_of n es ∷ []) h) [
  | inl g ↦ upto-below n c es below ks g k a
  | inr g ↦ elim g [
    | inl is ↦ let s = ends-say n es k (subst (λ l. Among k l) (sym is) a) in
        subst (λ z. z < c) s.to (below s.edge s.among)
    | inr n ↦ absurd n
  ]
]

pub lists-below : (lists : List (List ℕ)) (n : ℕ) (es : List Edge) → lists ≡ ends_upto n es
    → ((e : Edge) → Among e es → e.to < n) → AreBelow n lists
lists-below lists n es is below = subst (AreBelow n) (sym is) (upto-below n n es below)

-- ---- visiting

visited-grows : (done : List ℕ) (k n : ℕ) → Among n done → Among n (visited done k)
visited-grows done k n h = by (holds k done)
  where
    by : (b : Bool) → Among n (cond b done (done ++ k ∷ []))
    by true = h
    by false = among-left n done (k ∷ []) h

visited-has : (done : List ℕ) (k : ℕ) → Among k (visited done k)
visited-has done k = by (holds k done) refl
  where
    by : (b : Bool) → holds k done ≡ b → Among k (cond b done (done ++ k ∷ []))
    by true e = holds-says k done e
    by false e = among-right k done (k ∷ []) (inl refl)

visited-says : (done : List ℕ) (k n : ℕ) → Among n (visited done k) → Among n done ⊎ (k ≡ n)
visited-says done k n = by (holds k done)
  where
    by : (b : Bool) → Among n (cond b done (done ++ k ∷ [])) → Among n done ⊎ (k ≡ n)
    by true h = inl h
    by false h = elim (among-either n done (k ∷ []) h) [
      | inl a ↦ inl a
      | inr b ↦
          elim b [ inl e ↦ inr e | inr f ↦ absurd f ]
    ]

visited-longer : (done : List ℕ) (k : ℕ) → length done ≤ length (visited done k)
visited-longer done k = by (holds k done)
  where
    by : (b : Bool) → length done ≤ length (cond b done (done ++ k ∷ []))
    by true = omega arith
    by false = let s = length-append done (k ∷ []) in omega (arith, s)

visited-take : (done : List ℕ) (k i : ℕ) → i ≤ length done → take i (visited done k) ≡ take i done
visited-take done k i le = by (holds k done)
  where
    by : (b : Bool) → take i (cond b done (done ++ k ∷ [])) ≡ take i done
    by true = refl
    by false = take-append-le i done (k ∷ []) le

all-grows : (ks done : List ℕ) (n : ℕ) → Among n done → Among n (all_visited done ks)
all-grows [] done n h = h
all-grows (k ∷ ks) done n h = all-grows ks (visited done k) n (visited-grows done k n h)

all-has : (ks done : List ℕ) (n : ℕ) → Among n ks → Among n (all_visited done ks)
all-has [] done n h = absurd h
all-has (k ∷ ks) done n (inl is) = all-grows ks (visited done k) n
    (subst (λ z. Among z (visited done k)) is (visited-has done k))
all-has (k ∷ ks) done n (inr h) = all-has ks (visited done k) n h

all-says : (ks done : List ℕ) (n : ℕ) → Among n (all_visited done ks) → Among n done ⊎ Among n ks
all-says [] done n h = inl h
all-says (k ∷ ks) done n h = elim (all-says ks (visited done k) n h) [
  | inl a ↦ elim (visited-says done k n a) [ inl b ↦ inl b | inr e ↦ inr (inl e) ]
  | inr b ↦ inr (inr b)
]

all-longer : (ks done : List ℕ) → length done ≤ length (all_visited done ks)
all-longer [] done = omega arith
all-longer (k ∷ ks) done = let a = visited-longer done k in let b = all-longer ks (visited done k) in
    omega (arith, a, b)

all-take : (ks done : List ℕ) (i : ℕ) → i ≤ length done → take i (all_visited done ks) ≡ take i done
all-take [] done i le = refl
all-take (k ∷ ks) done i le = all-take ks (visited done k) i (let a = visited-longer done k in omega (arith, a, le))
    ∙ visited-take done k i le

-- ---- marks

or-false : (b : Bool) → b || false ≡ b
or-false true = refl
or-false false = refl

holds-append : (k : ℕ) (done : List ℕ) (n : ℕ) → holds k (done ++ n ∷ []) ≡ holds k done || nat_eq n k
holds-append k [] n = or-false (nat_eq n k)
holds-append k (x ∷ done) n = by (nat_eq x k) (holds-append k done n)
  where
    by : (b : Bool) → holds k (done ++ n ∷ []) ≡ holds k done || nat_eq n k
        → b || holds k (done ++ n ∷ []) ≡ (b || holds k done) || nat_eq n k
    by true e = refl
    by false e = e

pub agree-more : (marks : List Bool) (done : List ℕ) (n : ℕ) → n < length marks → Agree marks done
    → Agree (set marks n true) (done ++ n ∷ [])
agree-more marks done n lt a k below = by (nat_eq n k) refl
  where
    within : k < length marks
    within = let s = length-set marks n true in omega (arith, s, below)

    by : (b : Bool) → nat_eq n k ≡ b → get_or (set marks n true) k false ≡ holds k (done ++ n ∷ [])
    by true e =
        let is : n ≡ k = eqb-true n k e in
        subst (λ z. get_or (set marks n true) z false ≡ holds z (done ++ n ∷ [])) is
        (get_or-set_same marks n true false lt ∙ sym
        (holds-has n (done ++ n ∷ []) (among-right n done (n ∷ []) (inl refl))))
    by false e =
        let apart : k ≢ n = (λ q. let f : true ≡ false = sym (eq-eqb n k (sym q)) ∙ e in cc) in
        get_or-set_other marks n k true false apart ∙ a k within
        ∙ sym (holds-append k done n ∙ ap (λ b. holds k done || b) e ∙ or-false (holds k done))

pub free-less : (marks : List Bool) (n : ℕ) → n < length marks → get_or marks n false ≡ false
    → free (set marks n true) + 1 ≡ free marks
free-less [] n lt e = absurd (omega (arith, lt))
free-less (true ∷ marks) zero lt e = cc
free-less (false ∷ marks) zero lt e = refl
free-less (true ∷ marks) (suc n) lt e = free-less marks n (omega (arith, lt)) e
free-less (false ∷ marks) (suc n) lt e = let r = free-less marks n (omega (arith, lt)) e in omega (arith, r)

pub free-none : (n : ℕ) → free (replicate n false) ≡ n
free-none zero = refl
free-none (suc n) = let r = free-none n in omega (arith, r)

-- ---- the search

pub record IsSearch (lists : List (List ℕ)) (start : ℕ) (done : List ℕ) (next : ℕ) : Type 0 where
  pub sound : (es : List Edge) → lists ≡ ends_upto (length lists) es → (n : ℕ) → Among n done → Path es start n
  pub closed : (es : List Edge) → lists ≡ ends_upto (length lists) es → (e : Edge) → Among e es
      → (e.from ≡ start) ⊎ Among e.from (take next done) → Among e.to done
  pub below : (n : ℕ) → Among n done → n < length lists
  pub within : next ≤ length done

pub search-start : (lists : List (List ℕ)) (start : ℕ) (ks : List ℕ) → AreBelow (length lists) lists
    → start < length lists → ks ≡ get_or lists start ks → IsSearch lists start (all_visited [] ks) 0
search-start lists start ks under lt at = record {
  sound = λ es is n h. sound es is n (all-says ks [] n h);
  closed = λ es is e a o. closed es is e a o;
  below = λ n h. elim (all-says ks [] n h) [
    | inl b ↦ absurd b
    | inr b ↦
        under ks (Among-read lists start ks lt at) n b
  ];
  within = omega arith;
}
  where
    sound : (es : List Edge) → lists ≡ ends_upto (length lists) es → (n : ℕ) → Among n [] ⊎ Among n ks → Path es start n
    sound es is n (inl h) = absurd h
    sound es is n (inr h) =
        let s = ends-say start es n (subst (λ l. Among n l) (ends-at lists es start ks is lt at) h) in
        subst (Path es start) s.to (subst (λ z. Path es z s.edge.to) s.from (First s.edge s.among))

    closed : (es : List Edge) → lists ≡ ends_upto (length lists) es → (e : Edge) → Among e es
        → (e.from ≡ start) ⊎ Among e.from [] → Among e.to (all_visited [] ks)
    closed es is e a (inl f) = all-has ks [] e.to (subst (λ l. Among e.to l) (sym (ends-at lists es start ks is lt at))
        (ends-has start es e a f))
    closed es is e a (inr h) = absurd h

pub search-step : (lists : List (List ℕ)) (start : ℕ) (done : List ℕ) (next class : ℕ) (ks : List ℕ)
    → AreBelow (length lists) lists → IsSearch lists start done next → next < length done
    → class ≡ get_or done next class
    → ks ≡ get_or lists class ks → IsSearch lists start (all_visited done ks) (next + 1)
search-step lists start done next class ks under s lt is at = record {
  sound = λ es l n h. sound es l n (all-says ks done n h);
  closed = λ es l e a o. closed es l e a o;
  below = λ n h. elim (all-says ks done n h) [
    | inl b ↦ s.below n b
    | inr b ↦
        under ks (Among-read lists class ks (s.below class (Among-read done next class lt is)) at) n b
  ];
  within = let a = all-longer ks done in omega (arith, a, lt);
}
  where
    here : Among class done
    here = Among-read done next class lt is

    sound : (es : List Edge) → lists ≡ ends_upto (length lists) es → (n : ℕ) → Among n done ⊎ Among n ks
        → Path es start n
    sound es l n (inl h) = s.sound es l n h
    sound es l n (inr h) =
        let t = ends-say class es n (subst (λ z. Among n z) (ends-at lists es class ks l (s.below class here) at) h) in
        subst (Path es start) t.to (Then start t.edge
        (subst (Path es start) (sym t.from) (s.sound es l class here)) t.among)

    front : take (next + 1) (all_visited done ks) ≡ take next done ++ class ∷ []
    front = all-take ks done (next + 1) (omega (arith, lt)) ∙ take_more done next class lt
        ∙ ap (λ z. take next done ++ z ∷ []) (sym is)

    closed : (es : List Edge) → lists ≡ ends_upto (length lists) es → (e : Edge) → Among e es
        → (e.from ≡ start) ⊎ Among e.from (take (next + 1) (all_visited done ks)) → Among e.to (all_visited done ks)
    closed es l e a (inl f) = all-grows ks done e.to (s.closed es l e a (inl f))
    closed es l e a (inr h) = elim (among-either e.from (take next done) (class ∷ [])
        (subst (λ z. Among e.from z) front h)) [
          | inl b ↦ all-grows ks done e.to (s.closed es l e a (inr b))
          | inr b ↦ elim b [
            | inl f ↦ all-has ks done e.to (subst (λ z. Among e.to z)
                (sym (ends-at lists es class ks l (s.below class here) at)) (ends-has class es e a (sym f)))
            | inr n ↦ absurd n
          ]
        ]

path-closed : (es : List Edge) (start : ℕ) (done : List ℕ)
    → ((e : Edge) → Among e es → (e.from ≡ start) ⊎ Among e.from done → Among e.to done) → (k n : ℕ) → Path es k n
    → k ≡ start → Among n done
path-closed es start done closed k n (First e a) is = closed e a (inl is)
path-closed es start done closed k n (Then y e p a) is =
    closed e a (inr (path-closed es start done closed y e.from p is))

pub search-end : (lists : List (List ℕ)) (start : ℕ) (done : List ℕ) (next : ℕ) → IsSearch lists start done next
    → length done ≤ next → IsReached lists start done
search-end lists start done next s le es l = by (holds start done) (on_cycle start es) refl refl
  where
    closed : (e : Edge) → Among e es → (e.from ≡ start) ⊎ Among e.from done → Among e.to done
    closed e a (inl f) = s.closed es l e a (inl f)
    closed e a (inr h) = s.closed es l e a (inr (subst (λ z. Among e.from z) (sym (take_all next done le)) h))

    by : (b c : Bool) → holds start done ≡ b → on_cycle start es ≡ c → b ≡ c
    by true true p q = refl
    by false false p q = refl
    by true false p q = let f : true ≡ false = sym (path-cycle start es (s.sound es l start (holds-says start done p)))
        ∙ q in f
    by false true p q = let f : true ≡ false = sym
        (holds-has start done (path-closed es start done closed start start (cycle-path start es q) refl)) ∙ p in sym f

-- ---- the loops

pub agree-pushed : (marks : List Bool) (done new : List ℕ) (n : ℕ) → n < length marks → Agree marks done
    → new ≡ done ++ n ∷ [] → Agree (set marks n true) new
agree-pushed marks done new n lt a is = subst (Agree (set marks n true)) (sym is) (agree-more marks done n lt a)

pub free-pushed : (marks : List Bool) (done new : List ℕ) (n : ℕ) → n < length marks → get_or marks n false ≡ false
    → new ≡ done ++ n ∷ [] → free (set marks n true) + length new ≡ free marks + length done
free-pushed marks done new n lt e is =
    let f = free-less marks n lt e in
    let l = ap length is in
    let s = length-append done (n ∷ []) in omega (arith, f, l, s)

-- within a list the default does not matter
same-get : {A : Type 0} (xs : List A) (i : ℕ) (d e : A) → i < length xs → get_or xs i d ≡ get_or xs i e
same-get [] i d e lt = absurd (omega (arith, lt))
same-get (y ∷ xs) zero d e lt = refl
same-get (y ∷ xs) (suc i) d e lt = same-get xs i d e (omega (arith, lt))

pub item-at : {A : Type 0} (f : A → List ℕ) (l : List A) (i : ℕ) (x : A) (rows : List ℕ) → i < length l
    → x ≡ get_or l i x → rows ≡ f x → rows ≡ get_or (map f l) i []
item-at f l i x rows lt is made = made ∙ item-ends f l i x is
    ∙ same-get (map f l) i (f x) [] (let m = length-map l f in omega (arith, m, lt))

pub rows-below : (lists : List (List ℕ)) (i : ℕ) (ks : List ℕ) (c : ℕ) → AreBelow c lists → i < length lists
    → ks ≡ get_or lists i [] → (n : ℕ) → Among n ks → n < c
rows-below lists i ks c under lt at n a = under ks (Among-read lists i ks lt (at ∙ same-get lists i [] ks lt)) n a

pub class-below : (lists : List (List ℕ)) (start : ℕ) (done rows : List ℕ) (next : ℕ) → IsSearch lists start done next
    → next < length done → rows ≡ done → get_or rows next 0 < length lists
class-below lists start done rows next s lt is = s.below (get_or rows next 0)
    (subst (λ z. Among (get_or z next 0) done) (sym is) (Among-get_or done next 0 lt))

pub search-started : (lists : List (List ℕ)) (start : ℕ) (ks old done : List ℕ) → AreBelow (length lists) lists
    → start < length lists → ks ≡ get_or lists start [] → old ≡ [] → done ≡ all_visited old ks
    → IsSearch lists start done 0
search-started lists start ks old done under lt at none is =
    subst (λ z. IsSearch lists start z 0) (sym (is ∙ ap (λ z. all_visited z ks) none))
    (search-start lists start ks under lt (at ∙ same-get lists start [] ks lt))

pub search-stepped : (lists : List (List ℕ)) (start : ℕ) (done rows new : List ℕ) (next : ℕ) (ks : List ℕ)
    → AreBelow (length lists) lists → IsSearch lists start done next → next < length done → rows ≡ done
    → ks ≡ get_or lists (get_or rows next 0) [] → new ≡ all_visited done ks → IsSearch lists start new (next + 1)
search-stepped lists start done rows new next ks under s lt is at made =
    let same : get_or rows next 0 ≡ get_or done next (get_or rows next 0) = ap (λ z. get_or z next 0) is
    ∙ same-get done next 0 (get_or rows next 0) lt in
    subst (λ z. IsSearch lists start z (next + 1)) (sym made)
    (search-step lists start done next (get_or rows next 0) ks under s lt same (at
    ∙ same-get lists (get_or rows next 0) [] ks (class-below lists start done rows next s lt is)))

-- ---- all holes

pub lists-length : {A : Type 0} (f : A → List ℕ) (l : List A) (n : ℕ) (es : List Edge) → map f l ≡ ends_upto n es
    → length l ≡ n
lists-length f l n es is = sym (length-map l f) ∙ ap length is ∙ upto-length n es

pub find-below : {A : Type 0} (f : A → List ℕ) (rows l : List A) (n : ℕ) (es : List Edge) → rows ≡ l
    → map f l ≡ ends_upto n es → ((e : Edge) → Among e es → e.to < n) → AreBelow (length rows) (map f rows)
find-below f rows l n es same is below =
    subst (λ z. AreBelow (length z) (map f z)) (sym same)
    (subst (λ k. AreBelow k (map f l)) (sym (lists-length f l n es is)) (lists-below (map f l) n es is below))

pub find-class : {A : Type 0} (f : A → List ℕ) (rows l : List A) (es : List Edge) (classes : List ℕ) (i : ℕ) → rows ≡ l
    → map f l ≡ ends_upto (length classes) es
    → ((k : ℕ) → Among k classes → k < length classes) → i < length classes → get_or classes i 0 < length rows
find-class f rows l es classes i same is below lt =
    let c = below (get_or classes i 0) (Among-get_or classes i 0 lt) in
    let m = lists-length f l (length classes) es is in
    let r = ap length same in omega (arith, c, m, r)

pub find-ends : {A : Type 0} (f : A → List ℕ) (rows l : List A) (n : ℕ) (es : List Edge) → rows ≡ l
    → map f l ≡ ends_upto n es → map f rows ≡ ends_upto (length rows) es
find-ends f rows l n es same is =
    subst (λ z. map f z ≡ ends_upto (length z) es) (sym same) (is
    ∙ ap (λ k. ends_upto k es) (sym (lists-length f l n es is)))

pub find-step : (edges : List Edge) (table : List Ident) (classes : List ℕ) (i : ℕ) (t : Ident)
    (best new then last : Option Text) → length classes ≡ length table → slice_get table i ≡ Some t
    → new ≡ term_cycle edges (get_or classes i 0) t → then ≡ lesser best new
    → least_from best (map (hole_cycle edges) (drop i (nodes_of table classes))) ≡ last
    → least_from then (map (hole_cycle edges) (drop (i + 1) (nodes_of table classes))) ≡ last
find-step edges table classes i t best new then last l at made less so =
    ap (λ z. least_from z (map (hole_cycle edges) (drop (i + 1) (nodes_of table classes)))) (less
    ∙ ap (lesser best) made)
    ∙ ap (λ z. least_from best (map (hole_cycle edges) z)) (sym (nodes-front table classes i t l at)) ∙ so

pub find-end : (edges : List Edge) (table : List Ident) (classes : List ℕ) (i : ℕ) (best last : Option Text)
    → length classes ≡ length table → length table ≤ i
    → least_from best (map (hole_cycle edges) (drop i (nodes_of table classes))) ≡ last → best ≡ last
find-end edges table classes i best last l le so =
    ap (λ z. least_from best (map (hole_cycle edges) z)) (sym (nodes-end table classes i l le)) ∙ so
