-- Sets of names, and lists in which no name stands twice.
use Rattle.std.proofs.Common.{refl, sym, ap, ◌∙◌, subst, ◌≡◌, ℕ, Bool, true, false, not, cond, ◌||◌, ◌+◌, ◌<◌, List, []}
use Rattle.std.proofs.Common.{◌∷◌, ◌++◌, length, get_or, take, drop}
use Rattle.std.proofs.Common.{true≢false}
use Rattle.std.specs.Str.{bytes_eq}
use Rattle.std.proofs.lemmas.Bool.{and_from}
use Rattle.hs_forms.proofs.LimitLemmas.{and_left, and_right}
use Rattle.std.proofs.lemmas.Bool.{not-true, not-false}
use Rattle.std.specs.Ordering.{nat_cmp, is_eq, ordering_reverse}
use Rattle.std.specs.Cmp.Lexicographic.{slice_cmp}
use Rattle.std.specs.declared.cmp.Ordering.{Ordering}
use Rattle.std.specs.declared.cmp.Ordering.TheVariants.{Less, Equal, Greater}
use Rattle.std.proofs.lemmas.Cmp.{nat_list_cmp_total}
use Rattle.std.specs.BTreeSet.{BTreeSet, contains}
use Rattle.std.proofs.lemmas.List.{take-append-drop, drop_more, take_more}
use Rattle.std.proofs.lemmas.List.Folds.{list_any_more}
use Rattle.bp_base.specs.Lists.{Among, AreDistinct, is_among}
use Rattle.bp_base.proofs.TextLemmas.{same_texts, other_texts, tied_texts, not_before_itself}
use Rattle.bp_base.proofs.SetLemmas.{is_among-there, there-is_among, distinct-push, distinct-twice}
use Rattle.plain_trees.specs.Plain.{HasNames, are_distinct}

-- the test by the order is the test by the bytes
pub tied_same : (a b : List ℕ) → is_eq (slice_cmp nat_cmp a b) ≡ bytes_eq b a
tied_same a b = by_cases (slice_cmp nat_cmp a b) refl (bytes_eq b a) refl
  where
    by_cases : (o : Ordering) → slice_cmp nat_cmp a b ≡ o → (t : Bool) → bytes_eq b a ≡ t → is_eq o ≡ t
    by_cases Equal e true f = refl
    by_cases Equal e false f = absurd (other_texts b a f (sym (tied_texts a b e)))
    by_cases Less e false f = refl
    by_cases Less e true f =
        let s : b ≡ a = same_texts b a f in
        let q : slice_cmp nat_cmp a a ≡ Less = ap (slice_cmp nat_cmp a) (sym s) ∙ e in
        absurd (not_before_itself a q)
    by_cases Greater e false f = refl
    by_cases Greater e true f =
        let s : b ≡ a = same_texts b a f in
        let q : slice_cmp nat_cmp a a ≡ Greater = ap (slice_cmp nat_cmp a) (sym s) ∙ e in
        absurd (not_before_itself a (nat_list_cmp_total.antisymm a a ∙ ap ordering_reverse q))

-- names before the one at a place, and the one
pub split_at : (xs : List (List ℕ)) (i : ℕ) (x : List ℕ) → i < length xs → x ≡ get_or xs i x
    → xs ≡ take i xs ++ x ∷ drop (i + 1) xs
split_at xs i x h e = sym (take-append-drop i xs) ∙ ap (λ (t : List (List ℕ)). take i xs ++ t) (drop_more xs i x h
    ∙ ap (λ (y : List ℕ). y ∷ drop (i + 1) xs) (sym e))

-- a name that the set holds already stands twice
pub twice : (names : List (List ℕ)) (i : ℕ) (item name : List ℕ) (set : BTreeSet (List ℕ)) (added : Bool)
    → i < length names → item ≡ get_or names i item
    → name ≡ item → HasNames set (take i names) → added ≡ not (contains (slice_cmp nat_cmp) set name) → added ≡ false
    → AreDistinct names → ⊥
twice names i item name set added h e same holds a f d =
    distinct-twice (take i names) (drop (i + 1) names) item
    (is_among-there item (take i names) (subst (λ (n : List ℕ). is_among n (take i names) ≡ true) same (sym (holds name)
    ∙ not-false (contains (slice_cmp nat_cmp) set name) (sym a ∙ f))))
    (subst AreDistinct (split_at names i item h e) d)

-- a name that is new to the set
pub set_more : (names : List (List ℕ)) (i : ℕ) (item name : List ℕ) (old new : BTreeSet (List ℕ)) (added : Bool)
    → i < length names → item ≡ get_or names i item
    → name ≡ item → ((q : List ℕ) → contains (slice_cmp nat_cmp) new q ≡ cond (is_eq (slice_cmp nat_cmp name q)) true
    (contains (slice_cmp nat_cmp) old q))
    → added ≡ not (contains (slice_cmp nat_cmp) old name) → added ≡ true
    → HasNames old (take i names) × AreDistinct (take i names)
    → HasNames new (take (i + 1) names) × AreDistinct (take (i + 1) names)
set_more names i item name old new added h e same up a t (holds, d) =
    (holding, subst AreDistinct (sym one_more) (distinct-push (take i names) item d fresh))
  where
    one_more : take (i + 1) names ≡ take i names ++ item ∷ []
    one_more = take_more names i item h ∙ ap (λ (y : List ℕ). take i names ++ y ∷ []) (sym e)

    fresh : Among item (take i names) → ⊥
    fresh k =
        let there : is_among name (take i names) ≡ true =
        subst (λ (n : List ℕ). is_among n (take i names) ≡ true) (sym same)
        (there-is_among item (take i names) k) in
        let absent : contains (slice_cmp nat_cmp) old name ≡ false =
        not-true (contains (slice_cmp nat_cmp) old name) (sym a ∙ t) in
        cc (there, absent, holds name)

    pick : (x y : Bool) → cond x true y ≡ y || x
    pick true true = refl
    pick true false = refl
    pick false true = refl
    pick false false = refl

    last : (q : List ℕ) → is_among q (take (i + 1) names) ≡ is_among q (take i names) || bytes_eq q item
    last q = list_any_more (bytes_eq q) names i item h
        ∙ ap (λ (y : List ℕ). is_among q (take i names) || bytes_eq q y) (sym e)

    holding : HasNames new (take (i + 1) names)
    holding q =
        up q ∙ (pick (is_eq (slice_cmp nat_cmp name q)) (contains (slice_cmp nat_cmp) old q)
        ∙ ((λ j. holds q j || tied_same name q j) ∙ (ap (λ (y : List ℕ). is_among q (take i names) || bytes_eq q y) same
        ∙ sym (last q))))

-- the test of distinct names
pub distinct_if : (names : List (List ℕ)) → AreDistinct names → are_distinct names ≡ true
distinct_if [] d = refl
distinct_if (x ∷ xs) d = and_from _ _ (ap not (not_among (is_among x xs) refl)) (distinct_if xs d.1)
  where
    not_among : (b : Bool) → is_among x xs ≡ b → is_among x xs ≡ false
    not_among false e = e
    not_among true e = absurd (d.0 (is_among-there x xs e))

pub distinct_from : (names : List (List ℕ)) → are_distinct names ≡ true → AreDistinct names
distinct_from [] e = tt
distinct_from (x ∷ xs) e = (
  λ k. let f : is_among x xs ≡ true = there-is_among x xs k in
      let g : is_among x xs ≡ false = not-true (is_among x xs) (and_left (not (is_among x xs)) _ e) in
      true≢false (sym f ∙ g),
  distinct_from xs (and_right (not (is_among x xs)) _ e),
)

pub twice_if : (names : List (List ℕ)) → (AreDistinct names → ⊥) → are_distinct names ≡ false
twice_if names none = by_cases (are_distinct names) refl
  where
    by_cases : (b : Bool) → are_distinct names ≡ b → are_distinct names ≡ false
    by_cases false e = e
    by_cases true e = absurd (none (distinct_from names e))
