-- How capped numbers are added up.
use Rattle.std.proofs.Common.{◌≡◌, ℕ, suc, ◌+◌, ◌<◌, List, [], ◌∷◌, ◌++◌, length, take, get_or, refl, ap, sym, ◌∙◌}
use Rattle.std.proofs.Common.{arith, fold}
use Rattle.std.specs.Prelude.{map, max, min, sum}
use Rattle.std.proofs.lemmas.List.{map-append}
use Rattle.std.proofs.lemmas.Simd.{map-map}
use Rattle.std.proofs.Math.Seq.{take-suc}
use Rattle.hs_forms.specs.Limits.{deepest}
use Rattle.hs_modules.specs.declared.measure.Measure.{Measure}
use Rattle.hs_modules.specs.Extents.{Extent, size_of, depth_of}
use Rattle.hs_modules.specs.Extents as e
use Rattle.hs_modules.specs.Measures.{most, capped, measured, nothing, leaf, beside, node, deeper, with_nodes}
use Rattle.hs_modules.specs.Measures.{all_measured}

min_of_sum : (m a b : ℕ) → min (min a m + min b m) m ≡ min (a + b) m
min_of_sum m a b = omega arith

min_of_left : (m a b : ℕ) → min (min a m + b) m ≡ min (a + b) m
min_of_left m a b = omega arith

max_of_min : (m a b : ℕ) → max (min a m) (min b m) ≡ min (max a b) m
max_of_min m a b = omega arith

min_of_more : (m a b : ℕ) → min (min a m + b) m ≡ min (b + a) m
min_of_more m a b = omega arith

abbrev measure_by : ℕ → ℕ → Measure
measure_by a d = record { size = a; depth = d }

same_measure : {a b d e : ℕ} → a ≡ b → d ≡ e → measure_by a d ≡ measure_by b e
same_measure p q = λ i. measure_by (p i) (q i)

nothing_capped : nothing ≡ capped 0 0
unfolding nothing capped
nothing_capped = refl

leaf_capped : leaf ≡ capped 1 0
unfolding leaf capped
leaf_capped = refl

beside_capped : (a d b e : ℕ) → beside (capped a d) (capped b e) ≡ capped (a + b) (max d e)
unfolding beside capped
beside_capped a d b e = same_measure (min_of_sum most a b) (max_of_min most d e)

node_capped : (a d : ℕ) → node (capped a d) ≡ capped (1 + a) d
unfolding node capped
node_capped a d = same_measure (min_of_more most a 1) refl

deeper_capped : (n a d : ℕ) → deeper n (capped a d) ≡ capped a (d + n)
unfolding deeper capped
deeper_capped n a d = same_measure refl (min_of_left most d n)

pub deeper_min : (n : ℕ) (m : Measure) → deeper (min n most) m ≡ deeper n m
unfolding deeper
deeper_min n m = same_measure refl (step m.depth n most) where
  step : (d k t : ℕ) → min (d + min k t) t ≡ min (d + k) t
  step d k t = omega arith

with_nodes_capped : (n a d : ℕ) → with_nodes n (capped a d) ≡ capped (a + n) d
unfolding with_nodes capped
with_nodes_capped n a d = same_measure (min_of_left most a n) refl

fold_from : (a : ℕ) (ns : List ℕ) → fold ◌+◌ a ns ≡ a + fold ◌+◌ 0 ns
fold_from a [] = omega arith
fold_from a (n ∷ ns) = step (fold ◌+◌ (a + n) ns) (fold ◌+◌ (0 + n) ns) (fold ◌+◌ 0 ns) (fold_from (a + n) ns)
    (fold_from (0 + n) ns) where
      step : (x y s : ℕ) → x ≡ (a + n) + s → y ≡ (0 + n) + s → x ≡ a + y
      step x y s p q = omega arith

pub sum_first : (n : ℕ) (ns : List ℕ) → sum (n ∷ ns) ≡ n + sum ns
sum_first n ns = fold_from (0 + n) ns ∙ step (fold ◌+◌ 0 ns) where
  step : (s : ℕ) → (0 + n) + s ≡ n + s
  step s = omega arith

sum_of_capped : {T : Type 0} (f : T → ℕ) (m : ℕ) (xs : List T)
    → min (sum (map (λ x. min (f x) m) xs)) m ≡ min (sum (map f xs)) m
sum_of_capped f m [] = refl
sum_of_capped f m (x ∷ xs) =
    ap (λ s. min s m) (sum_first (min (f x) m) (map (λ y. min (f y) m) xs))
    ∙ step (f x) (sum (map (λ y. min (f y) m) xs)) (sum (map f xs)) (sum_of_capped f m xs)
    ∙ sym (ap (λ s. min s m) (sum_first (f x) (map f xs))) where
      step : (a s r : ℕ) → min s m ≡ min r m → min (min a m + s) m ≡ min (a + r) m
      step a s r h = omega arith

deepest_of_capped : {T : Type 0} (g : T → ℕ) (m : ℕ) (xs : List T)
    → deepest (map (λ x. min (g x) m) xs) ≡ min (deepest (map g xs)) m
deepest_of_capped g m [] = sym (zero_min m) where
  zero_min : (k : ℕ) → min 0 k ≡ 0
  zero_min k = omega arith
deepest_of_capped g m (x ∷ xs) = ap (max (min (g x) m)) (deepest_of_capped g m xs)
    ∙ max_of_min m (g x) (deepest (map g xs))

all_capped : {T : Type 0} (f g : T → ℕ) (xs : List T)
    → all_measured (λ x. capped (f x) (g x)) xs ≡ capped (sum (map f xs)) (deepest (map g xs))
unfolding all_measured capped
all_capped f g xs = same_measure (sum_of_capped f most xs) (deepest_of_capped g most xs)

-- Each step of the code on measures is the step on extents, measured.
pub given : (a : Extent) → measured a ≡ measured a
given a = refl

pub nothing_is : nothing ≡ measured e.nothing
unfolding measured
nothing_is = nothing_capped

pub leaf_is : leaf ≡ measured e.leaf
unfolding measured
leaf_is = leaf_capped

pub beside_is : {m n : Measure} (a b : Extent) → m ≡ measured a → n ≡ measured b → beside m n ≡ measured (e.beside a b)
unfolding measured
beside_is {m} {n} a b p q = (λ i. beside (p i) (q i)) ∙ beside_capped a.size a.depth b.size b.depth

pub node_is : {m : Measure} (a : Extent) → m ≡ measured a → node m ≡ measured (e.node a)
unfolding measured
node_is {m} a p = ap node p ∙ node_capped a.size a.depth

pub deeper_is : (by : ℕ) {m : Measure} (a : Extent) → m ≡ measured a → deeper by m ≡ measured (e.deeper by a)
unfolding measured
deeper_is by {m} a p = ap (deeper by) p ∙ deeper_capped by a.size a.depth

pub with_nodes_is : (nodes : ℕ) {m : Measure} (a : Extent) → m ≡ measured a
    → with_nodes nodes m ≡ measured (e.with_nodes nodes a)
unfolding measured
with_nodes_is nodes {m} a p = ap (with_nodes nodes) p ∙ with_nodes_capped nodes a.size a.depth

pub all_is : {T : Type 0} (f : T → Extent) (xs : List T)
    → all_measured (λ x. measured (f x)) xs ≡ measured (e.all_beside (map f xs))
unfolding measured
all_is f xs =
    all_capped (λ x. (f x).size) (λ x. (f x).depth) xs
    ∙ (λ i. capped (sum (sym (map-map size_of f xs) i)) (deepest (sym (map-map depth_of f xs) i)))

-- the measure of a tree, from the extent of its layer
pub from_layer : {T : Type 0} (extent : T → Extent) {t u : T} {a : Extent} {m : Measure} → u ≡ t → extent u ≡ a
    → m ≡ measured a → measured (extent t) ≡ m
from_layer extent r l p = ap (λ y. measured (extent y)) (sym r) ∙ ap measured l ∙ sym p

sum_last : (ns : List ℕ) (n : ℕ) → sum (ns ++ n ∷ []) ≡ sum ns + n
sum_last [] n = omega arith
sum_last (m ∷ ns) n =
    sum_first m (ns ++ n ∷ [])
    ∙ step (sum (ns ++ n ∷ [])) (sum ns) (sum_last ns n)
    ∙ sym (ap (λ s. s + n) (sum_first m ns)) where
      step : (a s : ℕ) → a ≡ s + n → m + a ≡ (m + s) + n
      step a s h = omega arith

deepest_last : (ns : List ℕ) (n : ℕ) → deepest (ns ++ n ∷ []) ≡ max (deepest ns) n
deepest_last [] n = omega arith
deepest_last (m ∷ ns) n = step (deepest (ns ++ n ∷ [])) (deepest ns) (deepest_last ns n) where
  step : (a s : ℕ) → a ≡ max s n → max m a ≡ max (max m s) n
  step a s h = omega arith

pub all_nothing : {T : Type 0} (m : T → Measure) → all_measured m [] ≡ nothing
unfolding all_measured nothing
all_nothing m = refl

pub all_last : {T : Type 0} (m : T → Measure) (xs : List T) (x : T)
    → all_measured m (xs ++ x ∷ []) ≡ beside (all_measured m xs) (m x)
unfolding all_measured beside
all_last m xs x =
    same_measure
    (ap (λ ns. min (sum ns) most) (map-append (λ t. (m t).size) xs (x ∷ []))
    ∙ ap (λ n. min n most) (sum_last (map (λ t. (m t).size) xs) (m x).size)
    ∙ sym (min_of_left most (sum (map (λ t. (m t).size) xs)) (m x).size))
    (ap deepest (map-append (λ t. (m t).depth) xs (x ∷ [])) ∙ deepest_last (map (λ t. (m t).depth) xs) (m x).depth)

-- a loop's step
pub all_more : {T : Type 0} (m : T → Measure) (xs : List T) (i : ℕ) (x : T) → i < length xs → x ≡ get_or xs i x →
    beside (all_measured m (take i xs)) (m x) ≡ all_measured m (take (i + 1) xs)
all_more m xs i x within is =
    sym (all_last m (take i xs) x)
    ∙ ap (λ y. all_measured m (take i xs ++ y ∷ [])) is
    ∙ ap (all_measured m) (sym (take-suc xs i x within))
    ∙ ap (λ n. all_measured m (take n xs)) (add_one i) where
      add_one : (k : ℕ) → suc k ≡ k + 1
      add_one k = omega arith

-- a loop's step over numbers that stop at the greatest u64
pub count_more : {T : Type 0} (f : T → ℕ) (a : ℕ) (xs : List T) (i : ℕ) (x : T) → i < length xs → x ≡ get_or xs i x →
    min (min (a + sum (map f (take i xs))) most + f x) most ≡ min (a + sum (map f (take (i + 1) xs))) most
count_more f a xs i x within is =
    step most a (sum (map f (take i xs))) (f x)
    ∙ ap (λ s. min (a + s) most) (sym (sum_last (map f (take i xs)) (f x)))
    ∙ ap (λ ns. min (a + sum ns) most) (sym (map-append f (take i xs) (x ∷ [])))
    ∙ ap (λ y. min (a + sum (map f (take i xs ++ y ∷ []))) most) is
    ∙ ap (λ ys. min (a + sum (map f ys)) most) (sym (take-suc xs i x within))
    ∙ ap (λ n. min (a + sum (map f (take n xs))) most) (add_one i) where
      step : (m k s n : ℕ) → min (min (k + s) m + n) m ≡ min (k + (s + n)) m
      step m k s n = omega arith

      add_one : (k : ℕ) → suc k ≡ k + 1
      add_one k = omega arith

pub ruleset loop_equations = (all_nothing, all_more)
