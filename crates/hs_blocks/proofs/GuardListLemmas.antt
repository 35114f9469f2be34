-- The last of several guards.
use Rattle.std.proofs.Common.{◌≡◌, ◌-◌, ◌<◌, ℕ, zero, suc, List, [], ◌∷◌, length, refl, sym, ap, ◌∙◌, arith}
use Rattle.std.specs.Prelude.{Some, None, not, map}
use Rattle.std.specs.List.{slice_get}
use Rattle.hs_modules.specs.Formed.{Facts, facts_of_guard, last_of}
use Rattle.hs_modules.specs.declared.expressions.GuardTree.{GuardTree}
use Rattle.hs_block_forms.specs.Blocks.{guards_fit}

-- the last guard of a list, by its index
last_at : (f : Facts) (xs : List GuardTree) (x : GuardTree) → slice_get xs (length xs - 1) ≡ Some x →
    facts_of_guard x ≡ last_of f (map facts_of_guard xs)
last_at f [] x e = absurd (none e)
  where
    none : None ≡ Some x → ⊥
    none e = cc
last_at f (y ∷ []) x e = ap facts_of_guard (some e)
  where
    some : Some y ≡ Some x → x ≡ y
    some e = cc
last_at f (y ∷ z ∷ xs) x e =
    let n : length (y ∷ z ∷ xs) - 1 ≡ suc (length (z ∷ xs) - 1) = omega arith in
    last_at (facts_of_guard y) (z ∷ xs) x (ap (slice_get (y ∷ z ∷ xs)) (sym n) ∙ e)

-- a list without a last guard is empty
last_none : (f : Facts) (xs : List GuardTree) → slice_get xs (length xs - 1) ≡ None →
    f ≡ last_of f (map facts_of_guard xs)
last_none f [] e = refl
last_none f (y ∷ xs) e = absurd (no (y ∷ xs) (length (y ∷ xs) - 1) (omega arith) e)
  where
    none : (x : GuardTree) → Some x ≡ None → ⊥
    none x e = cc

    no : (l : List GuardTree) (i : ℕ) → i < length l → slice_get l i ≡ None → ⊥
    no [] i lt e = omega arith
    no (x ∷ l) zero lt e = none x e
    no (x ∷ l) (suc i) lt e = no l i (omega arith) e

-- the last of several guards tells whether they fit
pub fit_at : (x : GuardTree) (xs : List GuardTree) (y : GuardTree) → slice_get xs (length xs - 1) ≡ Some y →
    not (facts_of_guard y).ends_in_type ≡ guards_fit (x, xs)
fit_at x xs y e = ap (λ (f : Facts). not f.ends_in_type) (last_at (facts_of_guard x) xs y e)

-- a guard alone tells whether it fits
pub fit_alone : (x : GuardTree) (xs : List GuardTree) → slice_get xs (length xs - 1) ≡ None →
    not (facts_of_guard x).ends_in_type ≡ guards_fit (x, xs)
fit_alone x xs e = ap (λ (f : Facts). not f.ends_in_type) (last_none (facts_of_guard x) xs e)
