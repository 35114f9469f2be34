-- Texts have one order: of two sorted lists with the same texts each is the other.
use Rattle.std.proofs.Common.{◌≡◌, ℕ, suc, ◌+◌, ◌<◌, Bool, true, false, List, [], ◌∷◌, length, get_or, refl, sym, ap}
use Rattle.std.proofs.Common.{◌∙◌, subst, arith}
use Rattle.std.specs.Prelude.{if◌then◌else◌, IsPermutation, IsSorted}
use Rattle.std.specs.List.{sum_by}
use Rattle.std.specs.Str.{bytes_eq}
use Rattle.std.specs.Cmp.{IsStrictWeakOrder}
use Rattle.std.specs.Cmp.Lexicographic.{slice_cmp}
use Rattle.std.specs.Ordering.{nat_cmp, is_lt, ordering_reverse}
use Rattle.std.specs.declared.cmp.Ordering.{Ordering}
use Rattle.std.specs.declared.cmp.Ordering.TheVariants.{Less, Equal, Greater}
use Rattle.std.proofs.lemmas.Cmp.{nat_list_cmp_total}
use Rattle.std.proofs.lemmas.List.MinMax.{ranks_by}
use Rattle.std.proofs.lemmas.List.Sorted.{sorted_far, sum_by-IsPermutation}
use Rattle.std.proofs.lemmas.List.Sums.{sum_by-cons}
use Rattle.bp_base.specs.Texts.{Text}
use Rattle.bp_base.proofs.TextLemmas.{same_texts, texts_same, tied_texts}

-- one text comes before the other
abbrev below : Text → Text → Bool
below x y = is_lt (slice_cmp nat_cmp x y)

abbrev AreSorted : List Text → Type 0
AreSorted xs = IsSorted (slice_cmp nat_cmp) xs

order : IsStrictWeakOrder below
order = ranks_by nat_list_cmp_total (λ (x : Text). x)

-- 1 where the texts are the same, else 0
abbrev hit : Text → Text → ℕ
hit a x = if bytes_eq a x then 1 else 0

-- how often a text stands in a list
abbrev times : Text → List Text → ℕ
times a xs = sum_by (hit a) xs

times-cons : (a x : Text) (xs : List Text) → times a (x ∷ xs) ≡ hit a x + times a xs
times-cons a x xs = sum_by-cons (hit a) x xs

hit-itself : (a : Text) → hit a a ≡ 1
hit-itself a = rw (texts_same a) refl

stands : (a : Text) (xs : List Text) → 0 < times a (a ∷ xs)
stands a xs = omega (arith, times-cons a a xs, hit-itself a)

-- where a text stands
found : (a : Text) (xs : List Text) → 0 < times a xs → (j : ℕ) × (j < length xs) × (get_or xs j [] ≡ a)
found a [] h = absurd (omega (arith, h))
found a (x ∷ xs) h = go (bytes_eq a x) refl (λ l. found a xs l)
  where
    go : (b : Bool) → bytes_eq a x ≡ b → (0 < times a xs → (j : ℕ) × (j < length xs) × (get_or xs j [] ≡ a))
        → (j : ℕ) × (j < length (x ∷ xs)) × (get_or (x ∷ xs) j [] ≡ a)
    go true e further = (0, omega arith, sym (same_texts a x e))
    go false e further =
        let none : hit a x ≡ 0 = rw e refl in
        let k = further (omega (arith, h, times-cons a x xs, none)) in
        (suc k.0, omega (arith, k.1), k.2)

-- nothing in a sorted list comes before its first text
none_below : (y : Text) (ys : List Text) (z : Text) → AreSorted (y ∷ ys) → 0 < times z (y ∷ ys) → below z y ≡ false
none_below y ys z s h =
    let f = found z (y ∷ ys) h in
    subst (λ (w : Text). below w y ≡ false) f.2 (sorted_far below order (y ∷ ys) s 0 f.0 [] (omega arith) f.1)

neither : (y z : Text) → below y z ≡ false → below z y ≡ false → y ≡ z
neither y z p q = go (slice_cmp nat_cmp y z) refl
  where
    go : (o : Ordering) → slice_cmp nat_cmp y z ≡ o → y ≡ z
    go Less e = absurd (let b : true ≡ false = sym (ap is_lt e) ∙ p in cc)
    go Equal e = tied_texts y z e
    go Greater e =
        let r : slice_cmp nat_cmp z y ≡ Less = nat_list_cmp_total.antisymm z y ∙ ap ordering_reverse e in
        absurd (let b : true ≡ false = sym (ap is_lt r) ∙ q in cc)

rest_sorted : (y : Text) (ys : List Text) → AreSorted (y ∷ ys) → AreSorted ys
rest_sorted y ys s = λ k d l h.
    let next : suc k + 1 ≡ suc (k + 1) = omega arith in
    subst (λ (n : ℕ). below (get_or (y ∷ ys) n d) (get_or ys k d) ≡ false) next
    (s (suc k) d (omega arith) (omega (arith, h)))

one_sorted : (ys zs : List Text) → AreSorted ys → AreSorted zs → ((a : Text) → times a ys ≡ times a zs) → ys ≡ zs
one_sorted [] [] s t h = refl
one_sorted [] (z ∷ zs) s t h = let p = stands z zs in let e = h z in absurd (omega (arith, p, e))
one_sorted (y ∷ ys) [] s t h = let p = stands y ys in let e = h y in absurd (omega (arith, p, e))
one_sorted (y ∷ ys) (z ∷ zs) s t h =
    let yz = none_below z zs y t (omega (arith, stands y ys, h y)) in
    let zy = none_below y ys z s (omega (arith, stands z zs, h z)) in
    let same : y ≡ z = neither y z yz zy in
    let rest : ys ≡ zs = one_sorted ys zs (rest_sorted y ys s) (rest_sorted z zs t)
    (λ a. let e : hit a y ≡ hit a z = ap (hit a) same in omega (arith, h a, times-cons a y ys, times-cons a z zs, e)) in
    ap (λ (x : Text). x ∷ ys) same ∙ ap (λ (l : List Text). z ∷ l) rest

-- a permutation that is sorted is one
pub one_order : (xs ys zs : List Text) → IsPermutation xs ys → IsPermutation xs zs → AreSorted ys → AreSorted zs
    → ys ≡ zs
one_order xs ys zs p q s t = one_sorted ys zs s t (λ a. sum_by-IsPermutation (hit a) xs ys p
    ∙ sym (sum_by-IsPermutation (hit a) xs zs q))
