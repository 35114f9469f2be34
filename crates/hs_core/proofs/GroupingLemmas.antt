-- Groups are gathered by walks along the graph turned round, from the number that is done last on.
use Rattle.std.proofs.Common.{◌≡◌, ◌≢◌, ◌⊎◌, inl, inr, ℕ, zero, suc, ◌+◌, ◌<◌, ◌≤◌, Bool, true, false, List, [], ◌∷◌}
use Rattle.std.proofs.Common.{◌++◌, length, get_or, set, drop, replicate, refl, sym, ap, ◌∙◌, subst, append_assoc}
use Rattle.std.proofs.Common.{arith, get_or-set_other, get_or-set_same, length-set}
use Rattle.std.specs.Prelude.{IsTrue, reverse}
use Rattle.std.specs.List.{Contains, dedup}
use Rattle.std.specs.List.Sorted.{IsPermutation, IsSorted}
use Rattle.std.specs.Ordering.{nat_cmp}
use Rattle.std.proofs.Math.Dec.{eqb}
use Rattle.std.proofs.lemmas.Bool.{cases_eq, cases_lt}
use Rattle.std.proofs.lemmas.List.{append-nil, reverse-append, drop_at, get_or_default, get_or-replicate, get_or_past}
use Rattle.std.proofs.lemmas.List.{length-replicate}
use Rattle.std.proofs.lemmas.List.Sorted.{Contains-permutation, IsPermutation-sym}
use Rattle.std.proofs.lemmas.List.Kept.{Contains-dedup_nat, Contains-from_dedup}
use Rattle.std.proofs.lemmas.Map.Keys.{IsStrictlyIncreasing-dedup}
use Rattle.bp_base.specs.Lists.{Among}
use Rattle.hs_core.specs.declared.group.UseList.{UseList}
use Rattle.hs_core.specs.declared.group.IndexGroup.{IndexGroup}
use Rattle.hs_core.specs.declared.group.Walked.{Walked}
use Rattle.hs_core.specs.Groups.{uses_at, InRange, Together, indices, DepthFirst, IsGroupOf, Grouped}
use Rattle.hs_core.specs.Groups.Grouped.{none, inner, last}
use Rattle.hs_core.specs.Walking.{IsAtRest, AreBelow, IsTurnedBelow, IsTurned, IsUsedBy, IsRising, IsGathered}
use Rattle.hs_core.specs.Walking.{IsGathering}
use Rattle.bp_base.proofs.SetLemmas.{among-left, among-right, among-either}
use Rattle.hs_core.proofs.ReachingLemmas.{among-one, among-indices, indices-below, Path, Path-less, Path-reaches}
use Rattle.hs_core.proofs.ReachingLemmas.{Path-start, Path-end, Path-turned, Together-itself, Together-turned}
use Rattle.hs_core.proofs.ReachingLemmas.{Together-trans, Reaches-turned, shut-reaches, IsProperType, AllStand, Grown}
use Rattle.hs_core.proofs.ReachingLemmas.{grown, stands-at, climbs}
use Rattle.hs_core.proofs.PendingLemmas.{true-not-false}

-- ---- the numbers of a list, rising

among-contains : (x : ℕ) (xs : List ℕ) → Among x xs → Contains xs x
among-contains x [] a = absurd a
among-contains x (y ∷ ys) (inl e) = (zero, omega arith, e)
among-contains x (y ∷ ys) (inr a) = let c = among-contains x ys a in (suc c.0, omega (arith, c.1), c.2)

contains-at : (x : ℕ) (xs : List ℕ) (k : ℕ) → k < length xs → get_or xs k x ≡ x → Among x xs
contains-at x [] k l e = absurd (omega arith)
contains-at x (y ∷ ys) zero l e = inl e
contains-at x (y ∷ ys) (suc k) l e = inr (contains-at x ys k (omega arith) e)

contains-among : (x : ℕ) (xs : List ℕ) → Contains xs x → Among x xs
contains-among x xs c = contains-at x xs c.0 c.1 c.2

pub rises : (numbers sorted members : List ℕ) → IsPermutation numbers sorted → IsSorted nat_cmp sorted
    → members ≡ dedup eqb sorted
    → IsRising numbers (record { members = members })
rises numbers sorted members p s is = subst (λ (m : List ℕ). IsRising numbers (record { members = m })) (sym is)
    (record {
      rising = IsStrictlyIncreasing-dedup sorted s;
      each = λ w a. contains-among w (dedup eqb sorted)
          (Contains-dedup_nat sorted w (Contains-permutation numbers sorted w p (among-contains w numbers a)));
      only = λ w a. contains-among w numbers (Contains-permutation sorted numbers w (IsPermutation-sym numbers sorted p)
          (Contains-from_dedup eqb sorted w (among-contains w (dedup eqb sorted) a)));
    })

-- ---- nothing is begun

falses : (n v : ℕ) → get_or (replicate n false) v false ≡ false
falses n v = elim (cases_lt v n) [
  | inl l ↦ get_or-replicate n v false false l
  | inr l ↦
      get_or_past (replicate n false) v false (let e : length (replicate n false) ≡ n = length-replicate n false in
      omega (arith, e))
]

pub at-rest : (g : List UseList) (walked : Walked) → walked.begun ≡ replicate (length g) false → walked.done ≡ []
    → IsAtRest g walked
at-rest g walked eb ed = record {
  size = ap length eb ∙ length-replicate (length g) false;
  marked = record {
    sound = λ v e. absurd (true-not-false (get_or walked.begun v false) e (ap (λ (b : List Bool). get_or b v false) eb
        ∙ falses (length g) v));
    done_too = λ v a. absurd (subst (λ (d : List ℕ). Among v d) ed a);
    path_too = λ v a. absurd a;
  };
}

-- ---- the graph turned round

abbrev nobody : UseList
nobody = record { uses = [] }

pub used-one : (old : List UseList) (used user : ℕ) → used < length old
    → IsUsedBy old (set old used (record { uses = uses_at old used ++ user ∷ [] })) (used ∷ []) user
used-one old used user l = record {
  size = length-set old used longer;
  kept = λ v w a. elim (cases_eq v used) [
    | inl e ↦ subst (λ (u : UseList). Among w u.uses) (sym (at v e))
        (among-left w (uses_at old used) (user ∷ []) (subst (λ (x : ℕ). Among w (uses_at old x)) e a))
    | inr n ↦ subst (λ (u : UseList). Among w u.uses) (sym (off v n)) a
  ];
  added = λ v a. let e : v ≡ used = sym (among-one v used a) in
      subst (λ (u : UseList). Among user u.uses) (sym (at v e))
      (among-right user (uses_at old used) (user ∷ []) (inl refl));
  only = λ v w a. elim (cases_eq v used) [
    | inl e ↦ elim (among-either w (uses_at old used) (user ∷ [])
        (subst (λ (u : UseList). Among w u.uses) (at v e) a)) [
          | inl b ↦ inl (subst (λ (x : ℕ). Among w (uses_at old x)) (sym e) b)
          | inr b ↦ inr (among-one w user b, inl (sym e))
        ]
    | inr n ↦ inl (subst (λ (u : UseList). Among w u.uses) (off v n) a)
  ];
}
  where
    longer : UseList
    longer = record { uses = uses_at old used ++ user ∷ [] }

    at : (v : ℕ) → v ≡ used → get_or (set old used longer) v nobody ≡ longer
    at v e = subst (λ (x : ℕ). get_or (set old used longer) x nobody ≡ longer) (sym e)
        (get_or-set_same old used longer nobody l)

    off : (v : ℕ) → v ≢ used → get_or (set old used longer) v nobody ≡ get_or old v nobody
    off v n = get_or-set_other old used v longer nobody n

pub used-more : (old mid new : List UseList) (used : List ℕ) (one user : ℕ) → IsUsedBy old mid used user
    → IsUsedBy mid new (one ∷ []) user → IsUsedBy old new (used ++ one ∷ []) user
used-more old mid new used one user p q = record {
  size = q.size ∙ p.size;
  kept = λ v w a. q.kept v w (p.kept v w a);
  added = λ v a. elim (among-either v used (one ∷ []) a) [ inl b ↦ q.kept v user (p.added v b) | inr b ↦ q.added v b ];
  only = λ v w a. elim (q.only v w a) [
    | inl b ↦ elim (p.only v w b) [ inl c ↦ inl c | inr c ↦ inr (c.0, among-left v used (one ∷ []) c.1) ]
    | inr b ↦ inr (b.0, among-right v used (one ∷ []) b.1)
  ];
}

pub turned-more : (g h new : List UseList) (n : ℕ) (uses : List ℕ) → IsTurnedBelow g h n → uses ≡ uses_at g n
    → IsUsedBy h new uses n → IsTurnedBelow g new (n + 1)
turned-more g h new n uses t is u = record {
  size = u.size ∙ t.size;
  back = λ v w a. elim (u.only v w a) [
    | inl b ↦ t.back v w b
    | inr b ↦ subst (λ (x : ℕ). Among v (uses_at g x)) b.0 (subst (λ (xs : List ℕ). Among v xs) is b.1)
  ];
  forth = λ v w l a. elim (cases_eq w n) [
    | inl e ↦ subst (λ (x : ℕ). Among x (uses_at new v)) (sym e)
        (u.added v (subst (λ (xs : List ℕ). Among v xs) (sym is) (subst (λ (x : ℕ). Among v (uses_at g x)) e a)))
    | inr d ↦ u.kept v w (t.forth v w (below w d l) a)
  ];
}
  where
    below : (w : ℕ) → w ≢ n → w < n + 1 → w < n
    below w d l = omega arith

pub among-at : (xs : List ℕ) (i : ℕ) → i < length xs → Among (get_or xs i 0) xs
among-at [] i l = absurd (omega arith)
among-at (x ∷ xs) zero l = inl refl
among-at (x ∷ xs) (suc i) l = inr (among-at xs i (omega arith))

pub used-at : (g : List UseList) (v : ℕ) (list : UseList) (uses : List ℕ) → v < length g → list ≡ get_or g v list
    → uses ≡ (get_or g v list).uses → uses ≡ uses_at g v
used-at g v list uses l is e = e ∙ ap (λ (u : UseList). u.uses) (get_or_default g v list (record { uses = [] }) l)

-- ---- the test of the range

pub false-not : IsTrue false → ⊥
false-not t = cc

pub true-is : IsTrue true
true-is = refl

pub still-below : (v n : ℕ) → v ≢ n → v < n + 1 → v < n
still-below v n d l = omega arith

pub last-below : (v n m : ℕ) → v < n → n ≤ m → v < m
last-below v n m l k = omega arith

-- ---- gathering

pub gathering-start : (g h : List UseList) (order : List ℕ) (walked : Walked) (groups : List IndexGroup)
    → IsAtRest h walked → walked.done ≡ [] → groups ≡ []
    → IsGathering g h order order walked groups
gathering-start g h order walked groups r ed eg = record {
  past = [];
  is = sym (append-nil order);
  rest = r;
  shut = λ u t a m. absurd (subst (λ (d : List ℕ). Among u d) ed a);
  each = λ v w a t. absurd a;
  only = λ w a. absurd (subst (λ (d : List ℕ). Among w d) ed a);
  grouped = subst (λ (x : List IndexGroup). Grouped g [] (reverse x)) (sym eg) none;
}

module _ (g h : List UseList) (order : List ℕ) (r : InRange g) (whole : DepthFirst g [] [] (indices (length g)) order)
    (turned : IsTurned g h) where
  all-grown : Grown g [] [] (indices (length g)) order
  all-grown = grown g [] [] (indices (length g)) order whole (λ u t a m. absurd a)

  order-below : AreBelow (length g) order
  order-below v a =
      let f = all-grown.found v (subst (λ (o : List ℕ). Among v o) all-grown.is a) in
      Path-end g [] f.0 v r f.2 (indices-below (length g) f.0 f.1)

  order-has : (v : ℕ) → v < length g → Among v order
  order-has v l = elim (all-grown.arrives v (among-indices (length g) v l)) [ inl a ↦ a | inr b ↦ absurd b ]

  module _ (left now : List ℕ) (v : ℕ) (walked : Walked) (groups : List IndexGroup)
      (w : IsGathering g h order left walked groups) (popped : left ≡ now ++ v ∷ []) where
    split : order ≡ now ++ v ∷ w.past
    split = w.is ∙ ap (λ (l : List ℕ). l ++ w.past) popped ∙ append_assoc now (v ∷ []) w.past

    pub next-below : v < length g
    next-below = order-below v (subst (λ (o : List ℕ). Among v o) (sym split)
        (among-right v now (v ∷ w.past) (inl refl)))

    stands : IsProperType g [] now v w.past
    stands = stands-at g [] [] now v w.past (subst (λ (o : List ℕ). AllStand g [] [] o) (sym all-grown.is
        ∙ split) all-grown.stand)

    pub gathering-later : get_or walked.begun v false ≡ true → IsGathering g h order now walked groups
    gathering-later b =
        let d : Among v walked.done = elim (w.rest.marked.sound v b) [ inl a ↦ a | inr a ↦ absurd a ] in
        let o = w.only v d in
        record {
          past = v ∷ w.past;
          is = split;
          rest = w.rest;
          shut = w.shut;
          each = λ u x a t. elim a [
            | inl e ↦ w.each o.0 x o.1 (Together-trans g o.0 v x o.2 (subst (λ (y : ℕ). Together g y x) (sym e) t))
            | inr k ↦ w.each u x k t
          ];
          only = λ x a. let p = w.only x a in (p.0, inr p.1, p.2);
          grouped = inner v o.0 w.past (reverse groups) o.1 (Together-turned g o.0 v o.2) w.grouped;
        }

    module _ (new : Walked) (more : List IndexGroup) (b : get_or walked.begun v false ≡ false)
        (k : IsGathered h v walked new groups more) where
      added : Grown h [] walked.done (v ∷ []) new.done
      added = grown h [] walked.done (v ∷ []) new.done k.walk.ends (λ u t a m. inl (w.shut u t a m))

      not-done : Among v walked.done → ⊥
      not-done a = true-not-false (get_or walked.begun v false) (w.rest.marked.done_too v a) b

      -- what is added reaches v in the graph, by way of nothing that is done later than v
      inside : (x : ℕ) → Among x added.more → Together g v x
      inside x a =
          let f = added.found x a in
          let p = Path-turned g h turned walked.done v x
          (subst (λ (y : ℕ). Path h walked.done y x) (sym (among-one f.0 v f.1)) f.2) in
          let q = Path-less g walked.done w.past x v (λ y m. w.each y y m (Together-itself g y)) p in (
            climbs g now v w.past stands x q (subst (λ (o : List ℕ). Among x o) split
                (order-has x (Path-start g w.past x v q next-below))),
            Path-reaches g w.past x v q,
          )

      -- and all that is of one group with v is added
      outside : (x : ℕ) → Together g v x → Among x added.more
      outside x t =
          let d : Among v new.done = elim (added.arrives v (inl refl)) [ inl a ↦ a | inr a ↦ absurd a ] in
          let m = shut-reaches h new.done added.shut v x (Reaches-turned g h turned x v t.1) d in
          elim (among-either x walked.done added.more (subst (λ (n : List ℕ). Among x n) added.is m)) [
            | inl a ↦ (let o = w.only x a in absurd
                (not-done (w.each o.0 v o.1 (Together-trans g o.0 x v o.2 (Together-turned g v x t)))))
            | inr a ↦ a
          ]

      dropped : drop (length walked.done) new.done ≡ added.more
      dropped = ap (λ (n : List ℕ). drop (length walked.done) n) added.is
          ∙ drop_at walked.done added.more (length walked.done) refl

      its-group : IsGroupOf g v k.group
      its-group = record {
        rising = k.rising.rising;
        each = λ x t. k.rising.each x (subst (λ (n : List ℕ). Among x n) (sym dropped) (outside x t));
        only = λ x a. inside x (subst (λ (n : List ℕ). Among x n) dropped (k.rising.only x a));
      }

      done-now : (x : ℕ) → Among x walked.done ⊎ Among x added.more → Among x new.done
      done-now x (inl a) = subst (λ (n : List ℕ). Among x n) (sym added.is) (among-left x walked.done added.more a)
      done-now x (inr a) = subst (λ (n : List ℕ). Among x n) (sym added.is) (among-right x walked.done added.more a)

      pub gathering-new : IsGathering g h order now new more
      gathering-new = record {
        past = v ∷ w.past;
        is = split;
        rest = k.walk.rest;
        shut = λ u t a m. elim (added.shut u t a m) [ inl d ↦ d | inr d ↦ absurd d ];
        each = λ u x a t. elim a [
          | inl e ↦ done-now x (inr (outside x (subst (λ (y : ℕ). Together g y x) (sym e) t)))
          | inr c ↦ done-now x (inl (w.each u x c t))
        ];
        only = λ x a. elim (among-either x walked.done added.more (subst (λ (n : List ℕ). Among x n) added.is a)) [
          | inl c ↦ (let o = w.only x c in (o.0, inr o.1, o.2))
          | inr c ↦ (v, inl refl, inside x c)
        ];
        grouped = subst (λ (x : List IndexGroup). Grouped g (v ∷ w.past) x)
            (sym (ap reverse k.is ∙ reverse-append groups (k.group ∷ [])))
            (last v w.past k.group (reverse groups)
            (λ u a t. not-done (w.each u v a (Together-turned g v u t))) its-group w.grouped);
      }
